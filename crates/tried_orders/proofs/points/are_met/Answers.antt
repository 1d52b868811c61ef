use Rattle.std.proofs.Common.{subst}
use Rattle.std.specs.Prelude.{Option}
use Rattle.conditions.specs.Condition.{Condition}
use Rattle.outcome_statistics.specs.declared.judgement.Judgement.{Judgement}
use Rattle.outcome_statistics.specs.Judgements.{IsJudged}
use Rattle.tried_orders.specs.Inside.Judging.{asked_in}
use Rattle.tried_orders.proofs.Judging.{all_met, met-by}
use Rattle.tried_orders.proofs.points.are_met.Goals as goal

pub returns-in-NoEnd-clause-none : goal.returns-in-NoEnd-clause-none
returns-in-NoEnd-clause-none c none tried judges =
    let asked : Option Condition = asked_in c.args.condition in
    subst (λ (judgement : Judgement). IsJudged asked tried all_met c.args.found.now.ends judgement) c.in-NoEnd.is
    (c.judgement_of.ensures tried judges.tally)

pub returns-in-Fails-clause-some : goal.returns-in-Fails-clause-some
returns-in-Fails-clause-some c tried some judges =
    let asked : Option Condition = asked_in c.args.condition in record {
      some = some;
      met = λ yes. absurd (let t = yes in cc);
      unmet = λ no.
          subst (λ (judgement : Judgement). IsJudged asked tried all_met c.args.found.now.ends judgement) c.in-Fails.is
          (c.judgement_of.ensures tried judges.tally);
    }

pub returns-in-Holds-clause-some : goal.returns-in-Holds-clause-some
returns-in-Holds-clause-some c tried some judges = record {
  some = some;
  met = λ yes. met-by (asked_in c.args.condition) tried c.args.found.now.ends c.judgement_of.result some c.in-Holds.is (c.judgement_of.ensures tried judges.tally);
  unmet = λ no. absurd (let t = no in cc);
}
