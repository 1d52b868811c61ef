-- What is known of tried records before it is a point: what the functions of this crate tell each other.
use Rattle.std.specs.Prelude.{◌≡◌, ◌≢◌, ℕ, Bool, true, false, List, [], Option, Some, None}
use Rattle.std.specs.Option.{option_map}
use denote.Ref.{Bor}
use Rattle.board_terms.specs.declared.config.Config.{Config}
use Rattle.conditions.specs.Condition.{Condition}
use Rattle.conditions.specs.declared.vacuity.NeedsMet.{NeedsMet}
use Rattle.guest_script.specs.Grammar.{Content}
use Rattle.outcome_statistics.specs.declared.ends.Ends.{Ends}
use Rattle.outcome_statistics.specs.declared.findings.Findings.{Findings}
use Rattle.outcome_statistics.specs.declared.findings.Judged.{Judged}
use Rattle.outcome_statistics.specs.Findings.{AreEnded, AreFound}
use Rattle.outcome_statistics.specs.Judgements.{AreMet, asked_rule}
use Rattle.outcome_statistics.specs.Records.{IsSo, Tells, Tried}
use Rattle.test_terms.specs.declared.options.Orders.{Orders}
use Rattle.test_report.specs.Missing.{IsLacking}
use Rattle.test_report.specs.declared.verdict.Extent.{Extent}
use Rattle.test_report.specs.declared.verdict.Verdict.{Verdict}
use Rattle.test_report.specs.declared.verdict.Verdict.TheVariants.{Holds, Fails, Vacuous, NoEnd, Misfit, NotJudged}
use Rattle.tried_orders.specs.declared.points.Source.{Source}
use Rattle.tried_orders.specs.declared.points.Source.TheVariants.{Seed, Threads}
use Rattle.tried_orders.specs.Verdicts.{AreItsNeeds, AreTriedOf, IsFoundBy, TellsOrders, TellsRuns}

-- the condition that a reference names, if it names one
abbrev pub asked_in : Option (Bor Condition) → Option Condition
asked_in asked = option_map (λ condition. condition.now) asked

-- what is found of a condition, or of a program without any, is right for these records
pub record Judges (asked : Option Condition) (tried : List Tried) (j : Judged) : Type 0 where
  pub tally : Tells (IsSo (asked_rule asked)) tried j.tally
  pub needs : AreItsNeeds asked tried j.met

-- there are records, and they are as is asked exactly if `holds`
pub record AreSo (asked : Option Condition) (holds : Bool) (tried : List Tried) : Type 0 where
  pub some : tried ≢ []
  pub met : holds ≡ true → AreMet asked tried
  pub unmet : holds ≡ false → ¬ AreMet asked tried

-- a condition lacks the step that its first pattern needs, or its second one
abbrev pub Lacks : Option Condition → NeedsMet → (is_second : Bool) → Type 0
Lacks None met is_second = ⊥
Lacks (Some condition) met is_second = IsLacking condition.rule met is_second

-- this is the condition, which doesn't begin with `maybe`, and it lacks such a step
pub record LacksIn (asked : Option Condition) (met : NeedsMet) (condition : Condition) (is_second : Bool) : Type 0 where
  pub is : asked ≡ Some condition
  pub meant : condition.is_maybe ≡ false
  pub lacks : IsLacking condition.rule met is_second

-- the verdict tells that there is no step for the first pattern, or for the second one
abbrev pub TellsLack : (is_second : Bool) → Verdict → Type 0
TellsLack is_second Holds = ⊥
TellsLack is_second Fails = ⊥
TellsLack is_second (Vacuous missing) = missing.is_second ≡ is_second
TellsLack is_second NoEnd = ⊥
TellsLack is_second (Misfit word) = ⊥
TellsLack is_second (NotJudged why) = ⊥

module _ (harts : ℕ) (asked : Option Condition) (judged : Judged) (ends : Ends) where
  -- the verdict is what is found of all records with these findings of which P holds
  abbrev pub IsFoundIf : (P : List Tried → Type 0) → (is_cut : Bool) → Verdict → Type 0
  IsFoundIf P is_cut verdict =
      (tried : List Tried) → P tried → Judges asked tried judged → AreEnded tried ends → IsFoundBy harts is_cut asked tried verdict

  -- the same of all records
  abbrev pub IsFoundOf : (is_cut : Bool) → Verdict → Type 0
  IsFoundOf is_cut verdict =
      (tried : List Tried) → Judges asked tried judged → AreEnded tried ends → IsFoundBy harts is_cut asked tried verdict

-- the findings are right for the orders that were tried of those asked for
pub record AreFoundFor (c : Config) (content : Content) (conditions : List Condition) (seed : ℕ) (asked : Orders) (is_cut : Bool)
    (found : Findings) : Type 0 where
  pub tried : List Tried
  pub are : AreTriedOf c content conditions seed asked is_cut tried
  pub right : AreFound c.harts conditions tried found

-- what is told of records, by where they come from
abbrev pub TellsOf : Source → (seed : ℕ) → List Tried → Extent → Type 0
TellsOf Seed seed tried reach = TellsOrders seed tried reach
TellsOf Threads seed tried reach = TellsRuns tried reach
