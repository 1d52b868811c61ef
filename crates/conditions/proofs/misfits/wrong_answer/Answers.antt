use Rattle.conditions.proofs.Unheld.{answer-of}
use Rattle.conditions.proofs.misfits.wrong_answer.Goals as goal

pub returns : goal.returns
returns c = answer-of c.args.p.now c.op_meant.result c.args.said c.args.item c.no_answer.result c.op_meant.ensures c.no_answer.ensures
