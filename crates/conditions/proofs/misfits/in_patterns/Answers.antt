use Rattle.conditions.specs.Misfits.{IsMisfitOf}
use Rattle.conditions.proofs.Unheld.{none-or}
use Rattle.conditions.proofs.misfits.in_patterns.Goals as goal

pub returns-in-None : goal.returns-in-None
returns-in-None c = none-or (IsMisfitOf c.args.told c.args.harts c.args.p.now) (IsMisfitOf c.args.told c.args.harts c.args.q.now) c.in_pattern-in-None.result c.in-None.ensures c.in_pattern-in-None.ensures
