use Rattle.conditions.specs.Misfits.{IsWrongAnswer, IsWrongWord}
use Rattle.conditions.proofs.Unheld.{none-or}
use Rattle.conditions.proofs.misfits.wrong_in_reply.Goals as goal

pub returns-in-None : goal.returns-in-None
returns-in-None c = none-or (IsWrongWord c.args.harts c.args.said c.args.place c.args.item) (IsWrongAnswer c.args.p.now c.args.said c.args.item) c.wrong_answer.result c.in-None.ensures c.wrong_answer.ensures
