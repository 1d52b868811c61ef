use Rattle.std.proofs.Common.{◌⊎◌}
use Rattle.conditions.specs.Misfits.{IsActorMisfit, IsDoerMisfit, IsOpMisfit}
use Rattle.conditions.proofs.Unheld.{none-or}
use Rattle.conditions.proofs.misfits.in_step.Goals as goal

pub returns-in-None : goal.returns-in-None
returns-in-None c = none-or (IsActorMisfit c.args.harts c.args.p.now) (λ any. IsDoerMisfit c.args.p.now any ⊎ IsOpMisfit c.args.p.now any) c.in_operation.result c.in-None.ensures c.in_operation.ensures
