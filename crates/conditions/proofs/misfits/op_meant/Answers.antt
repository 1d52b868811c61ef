use Rattle.conditions.proofs.Unheld.{meant-of}
use Rattle.conditions.proofs.misfits.op_meant.Goals as goal

pub returns : goal.returns
returns c = meant-of c.args.p.now c.is_clocks.result c.op_of.result c.meant.result c.is_clocks.ensures c.op_of.ensures c.meant.ensures
