use Rattle.condition_script.specs.declared.rules.Rule.TheVariants.{Never, NeverAfter, Each, Before}
use Rattle.marked_conditions.proofs.Firsts.{at-first, failing-by}
use Rattle.marked_conditions.proofs.places.failing_step_with.Goals as goal

pub returns-in-Never : goal.returns-in-Never
returns-in-Never c =
    failing-by c.args.rule.now (Never c.in-Never.p) c.args.events.now c.args.marks.now c.first_with.result c.in-Never.is
    (at-first c.in-Never.p c.args.events.now c.args.marks.now c.first_with.result c.first_with.ensures)

pub returns-in-NeverAfter : goal.returns-in-NeverAfter
returns-in-NeverAfter c =
    failing-by c.args.rule.now (NeverAfter c.in-NeverAfter.p c.in-NeverAfter.q) c.args.events.now c.args.marks.now c.failing_after.result c.in-NeverAfter.is c.failing_after.ensures

pub returns-in-Each : goal.returns-in-Each
returns-in-Each c =
    failing-by c.args.rule.now (Each c.in-Each.p) c.args.events.now c.args.marks.now c.first_unfit.result c.in-Each.is c.first_unfit.ensures

pub returns-in-Before : goal.returns-in-Before
returns-in-Before c =
    failing-by c.args.rule.now (Before c.in-Before.field-0 c.in-Before.q) c.args.events.now c.args.marks.now c.first_with-in-Before.result c.in-Before.is
    (at-first c.in-Before.q c.args.events.now c.args.marks.now c.first_with-in-Before.result c.first_with-in-Before.ensures)
