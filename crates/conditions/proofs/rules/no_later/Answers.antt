use Rattle.conditions.proofs.Firsts.{later}
use Rattle.conditions.proofs.rules.no_later.Goals as goal

pub returns-in-Some : goal.returns-in-Some
returns-in-Some c = later c.args.p.now c.args.q.now c.args.events.now c.in-Some.j c.first_from-in-Some.result c.is_none.result c.in-Some.ensures c.first_from-in-Some.ensures c.is_none.ensures
