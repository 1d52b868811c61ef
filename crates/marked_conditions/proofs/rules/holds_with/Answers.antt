use Rattle.condition_script.specs.declared.rules.Rule.TheVariants.{Never, NeverAfter, OfSome, Each, End, Before}
use Rattle.marked_conditions.specs.Marked.{IsAtWith}
use Rattle.marked_conditions.proofs.Firsts.{holds-by, none-fits, none-is-never, some-is-there}
use Rattle.marked_conditions.proofs.rules.holds_with.Goals as goal

pub returns-in-Never : goal.returns-in-Never
returns-in-Never c =
    let Is = IsAtWith c.in-Never.p c.args.events.now c.args.marks.now in
    holds-by c.args.rule.now (Never c.in-Never.p) c.args.events.now c.args.marks.now c.args.end c.is_none.result c.in-Never.is
    (none-is-never Is Is c.first_with.result c.is_none.result c.first_with.ensures c.is_none.ensures)

pub returns-in-NeverAfter : goal.returns-in-NeverAfter
returns-in-NeverAfter c =
    holds-by c.args.rule.now (NeverAfter c.in-NeverAfter.p c.in-NeverAfter.q) c.args.events.now c.args.marks.now c.args.end c.no_later.result c.in-NeverAfter.is c.no_later.ensures

pub returns-in-OfSome : goal.returns-in-OfSome
returns-in-OfSome c =
    let Is = IsAtWith c.in-OfSome.p c.args.events.now c.args.marks.now in
    holds-by c.args.rule.now (OfSome c.in-OfSome.p) c.args.events.now c.args.marks.now c.args.end c.is_some.result c.in-OfSome.is
    (some-is-there Is Is c.first_with-in-OfSome.result c.is_some.result c.first_with-in-OfSome.ensures c.is_some.ensures)

pub returns-in-Each : goal.returns-in-Each
returns-in-Each c =
    holds-by c.args.rule.now (Each c.in-Each.p) c.args.events.now c.args.marks.now c.args.end c.is_none-in-Each.result c.in-Each.is
    (none-fits c.in-Each.p c.args.events.now c.args.marks.now c.first_unfit.result c.is_none-in-Each.result c.first_unfit.ensures c.is_none-in-Each.ensures)

pub returns-in-End : goal.returns-in-End
returns-in-End c =
    holds-by c.args.rule.now (End c.in-End.field-0) c.args.events.now c.args.marks.now c.args.end c.names_end.result c.in-End.is (rw c.in-End.is at c.names_end.ensures)

pub returns-in-Before : goal.returns-in-Before
returns-in-Before c =
    holds-by c.args.rule.now (Before c.in-Before.p c.in-Before.q) c.args.events.now c.args.marks.now c.args.end c.is_before.result c.in-Before.is c.is_before.ensures
