use Rattle.conditions.specs.Misfits.{IsDoerMisfit, IsOpMisfit}
use Rattle.conditions.proofs.Unheld.{none-or}
use Rattle.conditions.proofs.misfits.in_operation.Goals as goal

pub returns-in-None : goal.returns-in-None
returns-in-None c = none-or (IsDoerMisfit c.args.p.now) (IsOpMisfit c.args.p.now) c.in_op.result c.in-None.ensures c.in_op.ensures
