-- What was found of the orders of a program (profile).
use Rattle.std.specs.Prelude.{◌≡◌, ◌≢◌, ℕ, ◌+◌, Bool, true, List, [], ◌∷◌, length, reverse, slice_get, Some, None}
use Rattle.access_marks.specs.declared.marks.Marks.{Marks}
use Rattle.access_marks.specs.Marks.{AreMarked, AreWalksMarked}
use Rattle.board_core.specs.History.{Event}
use Rattle.board_core.specs.Opening.{opening_at}
use Rattle.board_terms.specs.declared.config.Config.{Config}
use Rattle.conditions.specs.Condition.{Condition}
use Rattle.conditions.specs.Ending.{Ending}
use Rattle.conditions.specs.Ending.TheVariants as endings
use Rattle.conditions.specs.Rule.{Rule}
use Rattle.conditions.specs.Endings.{ending}
use Rattle.guest_script.specs.Grammar.{Content}
use Rattle.guest_programs.specs.declared.ends.End.{End}
use Rattle.seeded_orders.specs.Orders.{IsTried}
use Rattle.guest_programs.specs.Steps.{task_of}
use Rattle.marked_conditions.specs.Marked.{asks_of_marks, asks_of_walks}
use Rattle.outcome_statistics.specs.declared.ends.Ends.{Ends}
use Rattle.outcome_statistics.specs.declared.findings.Findings.{Findings}
use Rattle.outcome_statistics.specs.declared.findings.Judged.{Judged}
use Rattle.outcome_statistics.specs.Met.{AreNeedsMet}
use Rattle.outcome_statistics.specs.Records.{IsCounted, IsSo, Tells, Tried}
use Rattle.outcome_statistics.specs.Visits.{AreRecords, AreVisited}

-- n of these records ended in this way (counted up to 2^64-1).
abbrev pub HaveEnded : Ending → List Tried → ℕ → Type 0
HaveEnded ended tried n = IsCounted (λ x. x.end ≡ Some ended) (λ x. x.end ≢ Some ended) tried n

-- How many of these records ended in each way.
pub record AreEnded (tried : List Tried) (ends : Ends) : Type 0 where
  pub off : HaveEnded endings.Off tried ends.off
  pub full : HaveEnded endings.HistoryFull tried ends.full
  pub quiet : HaveEnded endings.Quiet tried ends.quiet
  pub stuck : HaveEnded endings.Stuck tried ends.stuck

-- n of these records have an end (counted up to 2^64-1).
abbrev pub HaveSomeEnd : List Tried → ℕ → Type 0
HaveSomeEnd tried n = IsCounted (λ x. x.end ≢ None) (λ x. x.end ≡ None) tried n

-- What is found of a condition: its tally, and which of the steps that it needs were met in some record.
abbrev pub IsFoundFor : Rule → List Tried → Judged → Type 0
IsFoundFor rule tried j = Tells (IsSo (Some rule)) tried j.tally × AreNeedsMet rule tried j.met

-- For each condition, what is found is right for these records.
abbrev pub EachTells : List Condition → List Tried → List Judged → Type 0
EachTells conditions tried judged =
    (k : ℕ) (c : Condition) (j : Judged) → slice_get conditions k ≡ Some c → slice_get judged k ≡ Some j
    → IsFoundFor c.rule tried j

-- The findings are right for these records, of a board of this many harts: what is found of each condition, a tally for records that
-- don't end stuck, how many ended in each way, the different records, and what guests met.
pub record AreFound (harts : ℕ) (conditions : List Condition) (tried : List Tried) (found : Findings) : Type 0 where
  pub many : length found.judged.items ≡ length conditions
  pub each : EachTells conditions tried found.judged.items
  pub well : Tells (IsSo None) tried found.well
  pub ends : AreEnded tried found.ends
  pub records : AreRecords tried found.records
  pub visits : AreVisited harts tried found.visits

-- some condition asks of something
abbrev pub AskOf : (asks : Rule → Bool) → List Condition → Type 0
AskOf asks conditions = (k : ℕ) × (condition : Condition) × (slice_get conditions k ≡ Some condition)
    × (asks condition.rule ≡ true)

-- some condition asks of marks
abbrev pub AskOfMarks : List Condition → Type 0
AskOfMarks conditions = AskOf asks_of_marks conditions

-- some condition asks which accesses aren't firm or lenient
abbrev pub AskOfWalks : List Condition → Type 0
AskOfWalks conditions = AskOf asks_of_walks conditions

-- The marks, oldest first, are those of a history on a board with these numbers. What they say of walks is, too, where some
-- condition asks of that.
abbrev pub AreMarkedFor : List Condition → Config → List Event → List Marks → Type 0
AreMarkedFor conditions c past marks = AreMarked (opening_at c) past (reverse marks)
    × (AskOfWalks conditions → AreWalksMarked (opening_at c) past (reverse marks))

-- If some condition asks of them, the record has the marks of its accesses, on a board with these numbers.
abbrev pub HasMarks : Config → List Condition → Tried → Type 0
HasMarks c conditions x = AskOfMarks conditions → AreMarkedFor conditions c (reverse x.events) x.marks

-- The record, with its marks and its end, is that of the order that the seed and its number pick.
abbrev pub IsOrder : Config → Content → List Condition → (seed : ℕ) → Tried → Type 0
IsOrder c content conditions seed x = (end : End) × (x.end ≡ ending end)
    × IsTried c (task_of content) seed x.number (reverse x.events) end × HasMarks c conditions x

-- These are the records of the seed's orders with the numbers from `from` to below `to`, the last in front.
abbrev pub AreOrders : Config → Content → List Condition → (seed from : ℕ) → List Tried → (to : ℕ) → Type 0
AreOrders c content conditions seed from [] to = to ≡ from
AreOrders c content conditions seed from (x ∷ tried) to =
    (to ≡ x.number + 1) × IsOrder c content conditions seed x × AreOrders c content conditions seed from tried x.number

-- The findings are right for the program's orders with the numbers from `from` to below `to`, each tried once.
abbrev pub AreFoundOf : Config → Content → List Condition → (seed from to : ℕ) → Findings → Type 0
AreFoundOf c content conditions seed from to found =
    (tried : List Tried) × AreOrders c content conditions seed from tried to × AreFound c.harts conditions tried found
