use Rattle.std.proofs.Common.{arith}
use Rattle.conditions.proofs.Unheld.{no-op-misfit, op-keep}
use Rattle.conditions.proofs.misfits.behind_op.Goals as goal

pub loop-place-preserved : goal.loop-place-preserved
loop-place-preserved c = op-keep c.args.p.now c.args.op c.loop-place.place c.in_default.ensures c.loop-place.invariant

pub returns : goal.returns
returns c = no-op-misfit c.args.p.now c.args.op c.loop-place.place c.requires (let over = c.loop-place-test.false in omega arith) c.loop-place.invariant
