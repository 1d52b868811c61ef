use Rattle.std.proofs.Common.{ℕ, List, [], sym, subst, arith}
use Rattle.std.specs.Prelude.{◌≢◌, Bool, IfSome, Option}
use Rattle.std.proofs.lemmas.Result.{IfOk-weaker}
use Rattle.conditions.specs.Condition.{Condition}
use Rattle.outcome_statistics.specs.declared.judgement.Judgement.TheVariants as says
use Rattle.outcome_statistics.specs.Judgements.{asked_rule}
use Rattle.outcome_statistics.specs.Records.{Tried}
use Rattle.test_report.specs.declared.verdict.Verdict.{Verdict}
use Rattle.tried_orders.specs.Inside.Judging.{AreSo, IsFoundIf, IsFoundOf, Judges, asked_in}
use Rattle.tried_orders.specs.Verdicts.{IsFoundBy}
use Rattle.tried_orders.proofs.Judging.{none-tried, say, some-tried, untried-by}
use Rattle.tried_orders.proofs.points.fitting.Goals as goal

-- nothing was tried
pub returns-then-tried-eq0 : goal.returns-then-tried-eq0
returns-then-tried-eq0 g c tried judges ended =
    let asked : Option Condition = asked_in c.args.condition in
    let harts : ℕ = c.args.trial.now.script.now.config.harts in
    subst (IsFoundBy harts c.args.is_cut asked tried) (sym c.untried.ensures)
    (untried-by harts c.args.is_cut asked tried c.requires (none-tried tried c.tried.result (c.tried.ensures (asked_rule asked) tried judges.tally) c.if-tried-eq0.true))

-- the records are as is asked, or they aren't
pub returns-in-Some : goal.returns-in-Some
returns-in-Some g c =
    let asked : Option Condition = asked_in c.args.condition in
    let harts : ℕ = c.args.trial.now.script.now.config.harts in
    let judged = c.args.judged.now in
    let ends = c.args.found.now.ends in
    let holds : Bool = c.in-Some.holds in
    let met = subst (λ (found : Option Bool). IfSome found (λ holds. (tried : List Tried) → tried ≢ [] → Judges asked tried judged → AreSo asked holds tried))
    c.in-Some.is c.are_met.ensures.some in
    let some : c.tried.result ≢ 0 = λ zero. absurd (let no = c.if-tried-eq0.false in omega arith) in
    let By : Verdict → Type 0 = λ verdict. (is_cut : Bool) → IsFoundIf harts asked judged ends (AreSo asked holds) is_cut verdict in
    IfOk-weaker c.of_need.result By (IsFoundOf harts asked judged ends c.args.is_cut)
    (λ verdict by tried judges ended.
    by c.args.is_cut tried
    (met tried (some-tried tried c.tried.result (c.tried.ensures (asked_rule asked) tried judges.tally) some) judges)
    judges ended)
    c.of_need.ensures

-- no order ended
pub returns-in-None : goal.returns-in-None
returns-in-None g c tried judges ended =
    let asked : Option Condition = asked_in c.args.condition in
    let harts : ℕ = c.args.trial.now.script.now.config.harts in (
      c.requires,
      say harts c.args.is_cut asked tried c.args.judged.now c.args.found.now.ends c.requires judges ended says.NoEnd
          (c.are_met.ensures.none c.in-None.is tried judges),
    )
