use Rattle.conditions.proofs.Firsts.{some-is-there}
use Rattle.conditions.proofs.vacuity.has_matching.Goals as goal

pub returns : goal.returns
returns c = some-is-there c.args.q.now c.args.events.now c.first_from.result c.is_some.result c.first_from.ensures c.is_some.ensures
