use Rattle.std.proofs.Common.{◌⊎◌}
use Rattle.conditions.specs.Misfits.{IsAnswerMisfit, IsMarkMisfit, IsReplyMisfit}
use Rattle.conditions.proofs.Unheld.{none-or}
use Rattle.conditions.proofs.misfits.in_answer.Goals as goal

pub returns-in-None : goal.returns-in-None
returns-in-None c = none-or (IsAnswerMisfit c.args.p.now) (λ any. IsMarkMisfit c.args.told c.args.p.now any ⊎ IsReplyMisfit c.args.harts c.args.p.now any) c.in_said.result c.in-None.ensures c.in_said.ensures
