use Rattle.std.proofs.Common.{◌⊎◌}
use Rattle.conditions.specs.Misfits.{IsActorMisfit, IsAnswerMisfit, IsDoerMisfit, IsMarkMisfit, IsOpMisfit, IsReplyMisfit}
use Rattle.conditions.proofs.Unheld.{none-or}
use Rattle.conditions.proofs.misfits.in_pattern.Goals as goal

pub returns-in-None : goal.returns-in-None
returns-in-None c = none-or (λ any. IsActorMisfit c.args.harts c.args.p.now any ⊎ (IsDoerMisfit c.args.p.now any ⊎ IsOpMisfit c.args.p.now any)) (λ any. IsAnswerMisfit c.args.p.now any ⊎ (IsMarkMisfit c.args.told c.args.p.now any ⊎ IsReplyMisfit c.args.harts c.args.p.now any)) c.in_answer.result c.in-None.ensures c.in_answer.ensures
