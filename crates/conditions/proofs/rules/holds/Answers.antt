use Rattle.condition_script.specs.declared.rules.Rule.TheVariants.{Never, NeverAfter, OfSome, Each, Before}
use Rattle.conditions.proofs.Firsts.{holds-by, none-is-each, none-is-never, some-is-there}
use Rattle.conditions.proofs.rules.holds.Goals as goal

pub returns-in-Never : goal.returns-in-Never
returns-in-Never c = holds-by c.args.rule.now (Never c.in-Never.p) c.args.events.now c.args.end c.is_none.result c.in-Never.is
    (none-is-never c.in-Never.p c.args.events.now c.first_from.result c.is_none.result c.first_from.ensures c.is_none.ensures)

pub returns-in-NeverAfter : goal.returns-in-NeverAfter
returns-in-NeverAfter c = holds-by c.args.rule.now (NeverAfter c.in-NeverAfter.p c.in-NeverAfter.q) c.args.events.now c.args.end c.no_later.result c.in-NeverAfter.is c.no_later.ensures

pub returns-in-OfSome : goal.returns-in-OfSome
returns-in-OfSome c = holds-by c.args.rule.now (OfSome c.in-OfSome.p) c.args.events.now c.args.end c.is_some.result c.in-OfSome.is
    (some-is-there c.in-OfSome.p c.args.events.now c.first_from-in-OfSome.result c.is_some.result c.first_from-in-OfSome.ensures c.is_some.ensures)

pub returns-in-Before : goal.returns-in-Before
returns-in-Before c = holds-by c.args.rule.now (Before c.in-Before.p c.in-Before.q) c.args.events.now c.args.end c.is_before.result c.in-Before.is c.is_before.ensures

pub returns-in-Each : goal.returns-in-Each
returns-in-Each c = holds-by c.args.rule.now (Each c.in-Each.p) c.args.events.now c.args.end c.is_none-in-Each.result c.in-Each.is
    (none-is-each c.in-Each.p c.args.events.now c.first_other_reply.result c.is_none-in-Each.result c.first_other_reply.ensures c.is_none-in-Each.ensures)
