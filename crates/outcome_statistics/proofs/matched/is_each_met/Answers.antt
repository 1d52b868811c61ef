use Rattle.std.proofs.Common.{refl}
use Rattle.conditions.specs.Rule.TheVariants.{Never, NeverAfter, OfSome, Each, End, Before, CanEnd}
use Rattle.outcome_statistics.proofs.Meeting.{both-by, met-by}
use Rattle.outcome_statistics.proofs.matched.is_each_met.Goals as goal

pub returns-in-Never : goal.returns-in-Never
returns-in-Never c tried = met-by c.args.rule.now (Never _) tried c.args.met c.args.met.first c.in-Never.is (λ have. have.first)

pub returns-in-NeverAfter : goal.returns-in-NeverAfter
returns-in-NeverAfter c tried = met-by c.args.rule.now (NeverAfter _ _) tried c.args.met c.are_both.result c.in-NeverAfter.is
    (λ have. both-by c.are_both.result c.are_both.ensures have.first have.second)

pub returns-in-OfSome : goal.returns-in-OfSome
returns-in-OfSome c tried = met-by c.args.rule.now (OfSome _) tried c.args.met c.args.met.first c.in-OfSome.is (λ have. have.first)

pub returns-in-Each : goal.returns-in-Each
returns-in-Each c tried = met-by c.args.rule.now (Each _) tried c.args.met c.args.met.first c.in-Each.is (λ have. have.first)

pub returns-in-End : goal.returns-in-End
returns-in-End c tried = met-by c.args.rule.now (End _) tried c.args.met _ c.in-End.is (λ have. ((λ yes. tt), (λ all. refl)))

pub returns-in-Before : goal.returns-in-Before
returns-in-Before c tried = met-by c.args.rule.now (Before _ _) tried c.args.met c.are_both-in-Before.result c.in-Before.is
    (λ have. both-by c.are_both-in-Before.result c.are_both-in-Before.ensures have.first have.second)

pub returns-in-CanEnd : goal.returns-in-CanEnd
returns-in-CanEnd c tried = met-by c.args.rule.now (CanEnd _) tried c.args.met _ c.in-CanEnd.is (λ have. ((λ yes. tt), (λ all. refl)))
