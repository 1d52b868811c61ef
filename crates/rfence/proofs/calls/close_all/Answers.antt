use Rattle.std.proofs.Common.{add-one, ap, arith, length, refl, None}
use Rattle.rfence.proofs.Changes.{written-all, written-more}
use Rattle.rfence.proofs.calls.close_all.Goals as goal

pub loop-call-preserved : goal.loop-call-preserved
loop-call-preserved g c =
    rw (c.close.ensures, c.loop-call.invariant, add-one c.loop-call.call-index)
    (written-more c.args.calls.now.items c.loop-call.call-index None (omega (arith, c.loop-call-test.true, ap length c.deref_mut-call-items.ensures.value)))

pub returns : goal.returns
returns g c =
    let long = ap length c.deref_mut-call-items.ensures.value in
    written-all None c.args.calls.now.items c.args.calls.now.items c.loop-call.call-items c.loop-call.call-index _ refl c.loop-call.invariant
    (omega (arith, c.loop-call-test.false, long)) (omega (arith, c.loop-call.auto.call-index-end, long)) c.args.calls.now.ok.0
