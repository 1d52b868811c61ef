use Rattle.std.proofs.Common.{arith}
use Rattle.conditions.proofs.Unheld.{no-reply-misfit, reply-keep}
use Rattle.conditions.proofs.misfits.behind_said.Goals as goal

pub loop-place-preserved : goal.loop-place-preserved
loop-place-preserved c = reply-keep c.args.harts c.args.p.now c.args.said c.loop-place.place c.in_default.ensures c.loop-place.invariant

pub returns : goal.returns
returns c =
    no-reply-misfit c.args.harts c.args.p.now c.args.said c.loop-place.place c.requires (let over = c.loop-place-test.false in omega arith) c.loop-place.invariant
