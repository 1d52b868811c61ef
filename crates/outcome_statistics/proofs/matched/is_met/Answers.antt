use Rattle.std.proofs.Common.{refl}
use Rattle.conditions.specs.Rule.TheVariants.{Never, NeverAfter, OfSome, Each, End, Before, CanEnd}
use Rattle.outcome_statistics.proofs.Meeting.{fitting-by}
use Rattle.outcome_statistics.proofs.matched.is_met.Goals as goal

pub returns-in-Never : goal.returns-in-Never
returns-in-Never c = fitting-by c.args.rule.now (Never c.in-Never.p) c.args.events.now c.has_fitting.result c.in-Never.is c.has_fitting.ensures

pub returns-in-NeverAfter : goal.returns-in-NeverAfter
returns-in-NeverAfter c = fitting-by c.args.rule.now (NeverAfter c.in-NeverAfter.p c.in-NeverAfter.q) c.args.events.now c.have_fitting.result c.in-NeverAfter.is c.have_fitting.ensures

pub returns-in-OfSome : goal.returns-in-OfSome
returns-in-OfSome c = fitting-by c.args.rule.now (OfSome c.in-OfSome.p) c.args.events.now c.has_fitting-in-OfSome.result c.in-OfSome.is c.has_fitting-in-OfSome.ensures

pub returns-in-Each : goal.returns-in-Each
returns-in-Each c = fitting-by c.args.rule.now (Each c.in-Each.p) c.args.events.now c.has_fitting-in-Each.result c.in-Each.is c.has_fitting-in-Each.ensures

pub returns-in-End : goal.returns-in-End
returns-in-End c = fitting-by c.args.rule.now (End _) c.args.events.now _ c.in-End.is ((λ yes. tt), (λ all. refl))

pub returns-in-Before : goal.returns-in-Before
returns-in-Before c = fitting-by c.args.rule.now (Before c.in-Before.p c.in-Before.q) c.args.events.now c.have_fitting-in-Before.result c.in-Before.is c.have_fitting-in-Before.ensures

pub returns-in-CanEnd : goal.returns-in-CanEnd
returns-in-CanEnd c = fitting-by c.args.rule.now (CanEnd _) c.args.events.now _ c.in-CanEnd.is ((λ yes. tt), (λ all. refl))
