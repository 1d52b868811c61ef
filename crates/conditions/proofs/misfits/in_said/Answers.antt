use Rattle.conditions.specs.Misfits.{IsMarkMisfit, IsReplyMisfit}
use Rattle.conditions.proofs.Unheld.{none-or}
use Rattle.conditions.proofs.misfits.in_said.Goals as goal

pub returns-in-None : goal.returns-in-None
returns-in-None c = none-or (IsMarkMisfit c.args.told c.args.p.now) (IsReplyMisfit c.args.harts c.args.p.now) c.in_reply.result c.in-None.ensures c.in_reply.ensures
