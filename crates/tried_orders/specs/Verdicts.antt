-- What is found of a program's conditions by orders that were tried, or by runs on threads (profile).
use Rattle.std.specs.Prelude.{◌≡◌, ◌≢◌, ◌⊎◌, ℕ, ◌+◌, ◌-◌, ◌^◌, ◌≤◌, min, max, Bool, true, false, List, [], ◌++◌, length, reverse, slice_get, Option, Some, None}
use Rattle.std.specs.Global.{Vec}
use Rattle.board_core.specs.Opening.{opening_at}
use Rattle.board_terms.specs.declared.config.Config.{Config}
use Rattle.conditions.specs.declared.misfits.Misfit.{Misfit as Word}
use Rattle.conditions.specs.Condition.{Condition}
use Rattle.conditions.specs.Ending.{Ending}
use Rattle.conditions.specs.Ending.TheVariants as endings
use Rattle.conditions.specs.Rule.TheVariants.{CanEnd}
use Rattle.conditions.specs.declared.vacuity.NeedsMet.{NeedsMet}
use Rattle.conditions.specs.Endings.{ending}
use Rattle.guest_script.specs.Grammar.{Content}
use Rattle.guest_programs.specs.declared.ends.End.{End}
use Rattle.guest_programs.specs.Ends.{IsEnd}
use Rattle.guest_programs.specs.Programs.{blocks_of, ticks_of}
use Rattle.hart_threads.specs.Shares.{IsRun}
use Rattle.outcome_statistics.specs.declared.ends.Ends.{Ends}
use Rattle.outcome_statistics.specs.declared.judgement.Judgement.{Judgement}
use Rattle.outcome_statistics.specs.declared.judgement.Judgement.TheVariants as says
use Rattle.outcome_statistics.specs.Findings.{AreEnded, AreOrders, HasMarks, HaveEnded}
use Rattle.outcome_statistics.specs.Judgements.{IsJudged, IsMaybe, asked_rule}
use Rattle.outcome_statistics.specs.Met.{AreNeedsMet}
use Rattle.outcome_statistics.specs.Records.{EachIs, Tried}
use Rattle.test_report.specs.Misfits.{IsMisfitOfMarked}
use Rattle.test_report.specs.Statuses.{extents, verdicts}
use Rattle.test_report.specs.declared.report.FileReport.{FileReport}
use Rattle.test_report.specs.declared.verdict.Extent.{Extent}
use Rattle.test_report.specs.declared.verdict.Extent.TheVariants as spans
use Rattle.test_report.specs.declared.verdict.Unjudged.{Unjudged}
use Rattle.test_report.specs.declared.verdict.Unjudged.TheVariants.{NoTime, NoOrder, NotAllOrders, TooMany, NoMarks, Missed, Fetches}
use Rattle.test_report.specs.declared.verdict.Verdict.{Verdict}
use Rattle.test_report.specs.declared.verdict.Verdict.TheVariants.{Holds, Fails, Vacuous, NoEnd, Misfit, NotJudged}
use Rattle.test_terms.specs.declared.options.Options.{Options}
use Rattle.test_terms.specs.declared.options.Orders.{Orders}
use Rattle.test_terms.specs.declared.options.Orders.TheVariants.{First, One}

-- ---- what is tried

-- the number of the first order that is asked for, and the number behind the last
abbrev pub first_asked : Orders → ℕ
first_asked (First many) = 0
first_asked (One order) = order

abbrev pub behind_asked : Orders → ℕ
behind_asked (First many) = many
behind_asked (One order) = order + 1

-- These are the records of a program's orders that are asked for, the last in front: of each, or of the first ones if the
-- time was over.
pub record AreTriedOf (c : Config) (content : Content) (conditions : List Condition) (seed : ℕ) (asked : Orders) (is_cut : Bool)
    (tried : List Tried) : Type 0 where
  pub to : ℕ
  pub are : AreOrders c content conditions seed (first_asked asked) tried to
  pub most : to ≤ behind_asked asked
  pub whole : is_cut ≡ false → to ≡ behind_asked asked

-- The record, with its marks and its end, is that of a run of the program on threads that no gate held back.
pub record IsRunRecord (c : Config) (content : Content) (conditions : List Condition) (x : Tried) : Type 0 where
  pub end : End
  pub ended : x.end ≡ ending end
  pub is : IsEnd end (opening_at c) (reverse x.events) (blocks_of content)
  pub run : IsRun (λ actor ordinal answer. answer ≡ true) (opening_at c) (blocks_of content) (ticks_of content) (reverse x.events) end
  pub marked : HasMarks c conditions x

-- These are the records of so many runs on threads, or of fewer if the time was over.
pub record AreRunsOf (c : Config) (content : Content) (conditions : List Condition) (runs : ℕ) (is_cut : Bool) (tried : List Tried) : Type 0 where
  pub each : EachIs (IsRunRecord c content conditions) tried
  pub most : length tried ≤ runs
  pub whole : is_cut ≡ false → length tried ≡ runs

-- What wasn't cut short before is cut short after only if there is a time limit.
abbrev pub IsCutByTime : (seconds : Option ℕ) → (before after : Bool) → Type 0
IsCutByTime seconds before after = after ≡ true → (before ≡ true) ⊎ (seconds ≢ None)

-- ---- what is found of it

-- which of the steps that a condition needs some of these records has
abbrev pub AreItsNeeds : Option Condition → List Tried → NeedsMet → Type 0
AreItsNeeds None tried met = Unit {0}
AreItsNeeds (Some condition) tried met = AreNeedsMet condition.rule tried met

-- These records say this of a condition, or of a program without any.
pub record Say (asked : Option Condition) (tried : List Tried) (judgement : Judgement) : Type 0 where
  pub met : NeedsMet
  pub ends : Ends
  pub needs : AreItsNeeds asked tried met
  pub ended : AreEnded tried ends
  pub judged : IsJudged asked tried met ends judgement

-- the judgement that no record has the step that a condition's first pattern needs, or its second one
abbrev pub lacking : (is_second : Bool) → Judgement
lacking false = says.LacksFirst
lacking true = says.LacksSecond

-- No record has the step that one of the condition's patterns needs.
abbrev pub SayVacuous : Option Condition → List Tried → Type 0
SayVacuous asked tried = (is_second : Bool) × Say asked tried (lacking is_second)

-- a condition is about all orders together: how they can still end
abbrev pub IsOfAll : Option Condition → Type 0
IsOfAll None = ⊥
IsOfAll (Some condition) = (ends : Vec Ending) × (condition.rule ≡ CanEnd ends)

-- why these records don't judge it: there are none, which may be for want of time only if they are cut short by it; or it
-- is about all orders
abbrev pub IsUnjudgedBy : (is_cut : Bool) → Option Condition → List Tried → Unjudged → Type 0
IsUnjudgedBy is_cut asked tried NoTime = (tried ≡ []) × (is_cut ≡ true)
IsUnjudgedBy is_cut asked tried NoOrder = tried ≡ []
IsUnjudgedBy is_cut asked tried NotAllOrders = IsOfAll asked
IsUnjudgedBy is_cut asked tried (TooMany states) = ⊥
IsUnjudgedBy is_cut asked tried NoMarks = ⊥
IsUnjudgedBy is_cut asked tried Missed = ⊥
IsUnjudgedBy is_cut asked tried Fetches = ⊥

-- The condition has no misfit on a board with so many harts.
abbrev pub HasNoMisfit : (harts : ℕ) → Option Condition → Type 0
HasNoMisfit harts asked = (word : Word) → ¬ IsMisfitOfMarked harts (asked_rule asked) word

-- There are records, they don't meet the condition, and it isn't vacuous, unless it begins with `maybe`.
pub record SayFailing (asked : Option Condition) (tried : List Tried) : Type 0 where
  pub some : tried ≢ []
  pub fails : Say asked tried says.Fails
  pub needed : IsMaybe asked ⊎ ¬ SayVacuous asked tried

-- There are records, none has the step that the condition's first or second pattern needs, and it doesn't begin with `maybe`.
pub record SayLacking (asked : Option Condition) (tried : List Tried) (is_second : Bool) : Type 0 where
  pub some : tried ≢ []
  pub lacks : Say asked tried (lacking is_second)
  pub meant : ¬ IsMaybe asked

-- The verdict on a condition, or on a program without any, is what these records say, or a misfit if it has one.
abbrev pub IsFoundBy : (harts : ℕ) → (is_cut : Bool) → Option Condition → List Tried → Verdict → Type 0
IsFoundBy harts is_cut asked tried Holds = HasNoMisfit harts asked × Say asked tried says.Holds
IsFoundBy harts is_cut asked tried Fails = HasNoMisfit harts asked × SayFailing asked tried
IsFoundBy harts is_cut asked tried (Vacuous missing) = HasNoMisfit harts asked × SayLacking asked tried missing.is_second
IsFoundBy harts is_cut asked tried NoEnd = HasNoMisfit harts asked × Say asked tried says.NoEnd
IsFoundBy harts is_cut asked tried (Misfit word) = IsMisfitOfMarked harts (asked_rule asked) word
IsFoundBy harts is_cut asked tried (NotJudged why) = HasNoMisfit harts asked × IsUnjudgedBy is_cut asked tried why

-- Each of these is found of the condition in its place.
abbrev pub EachIsFoundBy : (harts : ℕ) → (is_cut : Bool) → List Condition → List Tried → List Verdict → Type 0
EachIsFoundBy harts is_cut conditions tried found =
    (place : ℕ) (verdict : Verdict) → slice_get found place ≡ Some verdict
    → IsFoundBy harts is_cut (slice_get conditions place) tried verdict

-- ---- what is told of it

-- how many they are (counted up to 2^64-1)
abbrev pub counted : List Tried → ℕ
counted tried = min (length tried) (2 ^ 64 - 1)

-- So many of them the limit cut off (counted up to 2^64-1).
abbrev pub AreCutOff : List Tried → ℕ → Type 0
AreCutOff tried cut = HaveEnded endings.HistoryFull tried cut

-- The extent has the number of these orders, their seed, and how many of them the limit cut off.
abbrev pub TellsOrders : (seed : ℕ) → List Tried → Extent → Type 0
TellsOrders seed tried reach = (cut : ℕ) × (reach ≡ spans.Tried (counted tried) seed cut) × AreCutOff tried cut

-- The extent has the number of these runs on threads, and how many of them the limit cut off.
abbrev pub TellsRuns : List Tried → Extent → Type 0
TellsRuns tried reach = (cut : ℕ) × (reach ≡ spans.Runs (counted tried) cut) × AreCutOff tried cut

-- By records that were tried, one point more is found of each condition, or of a program without any, in the conditions'
-- order. The extents of these points are right for these records (`Tells`).
pub record AddsPoints (Tries : List Tried → Type 0) (Tells : List Tried → Extent → Type 0) (harts : ℕ) (is_cut : Bool)
    (conditions : List Condition) (before after : FileReport) : Type 0 where
  pub tried : List Tried
  pub are : Tries tried
  pub more : List Verdict
  pub added : verdicts after ≡ verdicts before ++ more
  pub many : length more ≡ max (length conditions) 1
  pub each : EachIsFoundBy harts is_cut conditions tried more
  pub told : List Extent
  pub reached : extents after ≡ extents before ++ told
  pub tells : EachIs (Tells tried) told

module _ (options : Options) (c : Config) (content : Content) (conditions : List Condition) (is_cut : Bool) (before after : FileReport) where
  -- By the orders that the options ask for (AreTriedOf), one point more is found of each condition of a program, or of the program
  -- without any (AddsPoints); its extent has their number and seed, and how many the limit cut off (TellsOrders).
  abbrev pub AddsOrders : Type 0
  AddsOrders = AddsPoints (AreTriedOf c content conditions options.seed options.orders is_cut) (TellsOrders options.seed) c.harts is_cut conditions
      before after

  -- The same by as many runs on threads as the options ask for (AreRunsOf, TellsRuns).
  abbrev pub AddsRuns : Type 0
  AddsRuns = AddsPoints (AreRunsOf c content conditions options.runs is_cut) TellsRuns c.harts is_cut conditions before after
