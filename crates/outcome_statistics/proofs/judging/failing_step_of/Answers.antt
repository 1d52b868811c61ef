use Rattle.std.proofs.Common.{refl}
use Rattle.conditions.specs.Rule.TheVariants.{NeverAfter, OfSome, End, CanEnd}
use Rattle.outcome_statistics.proofs.Failing.{failing-before, failing-by, failing-each, failing-never}
use Rattle.outcome_statistics.proofs.judging.failing_step_of.Goals as goal

pub returns-in-Never : goal.returns-in-Never
returns-in-Never c = failing-never c.args.rule.now c.in-Never.p c.args.events.now c.first_from.result c.in-Never.is c.first_from.ensures

pub returns-in-NeverAfter : goal.returns-in-NeverAfter
returns-in-NeverAfter c = failing-by c.args.rule.now (NeverAfter c.in-NeverAfter.p c.in-NeverAfter.q) c.args.events.now c.failing_after.result c.in-NeverAfter.is c.failing_after.ensures

pub returns-in-Each : goal.returns-in-Each
returns-in-Each c = failing-each c.args.rule.now c.in-Each.p c.args.events.now c.first_other_reply.result c.in-Each.is c.first_other_reply.ensures

pub returns-in-Before : goal.returns-in-Before
returns-in-Before c = failing-before c.args.rule.now _ c.in-Before.q c.args.events.now c.first_from-in-Before.result c.in-Before.is c.first_from-in-Before.ensures

pub returns-in-OfSome : goal.returns-in-OfSome
returns-in-OfSome c = failing-by c.args.rule.now (OfSome _) c.args.events.now _ c.in-OfSome.is refl

pub returns-in-CanEnd : goal.returns-in-CanEnd
returns-in-CanEnd c = failing-by c.args.rule.now (CanEnd _) c.args.events.now _ c.in-CanEnd.is refl

pub returns-in-End : goal.returns-in-End
returns-in-End c = failing-by c.args.rule.now (End _) c.args.events.now c.last_place.result c.in-End.is c.last_place.ensures
