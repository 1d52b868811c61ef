use Rattle.conditions.proofs.Unheld.{kind-of}
use Rattle.conditions.proofs.misfits.in_kind.Goals as goal

pub returns : goal.returns
returns c = kind-of c.args.p.now c.op_meant.result c.said_of.result c.no_reply.result c.op_meant.ensures c.said_of.ensures c.no_reply.ensures
