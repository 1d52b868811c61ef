use Rattle.std.proofs.Common.{ap, arith, length}
use Rattle.rfence.specs.Inside.Marks.{forgotten}
use Rattle.rfence.proofs.Changes.{mapped-more}
use Rattle.rfence.proofs.calls.forget_all.Goals as goal

pub loop-call-preserved : goal.loop-call-preserved
loop-call-preserved c =
    mapped-more (forgotten c.args.t) c.args.calls.now.items c.loop-call.call-items c.loop-call.call-index c.call-item.result c.forget_in.new.call
    (omega (arith, c.loop-call-test.true, ap length c.deref_mut-call-items.ensures.value)) c.loop-call.invariant c.forget_in.ensures
