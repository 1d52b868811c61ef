-- What a file's bytes meet if each of its points holds (profile).
use Rattle.std.specs.Prelude.{◌≡◌, ◌≢◌, ◌⊎◌, ℕ, ◌+◌, ◌<◌, ◌==◌, if◌then◌else◌, List, [], ◌++◌, length, map, slice_get, None, true}
use Rattle.conditions.specs.Condition.{Condition}
use Rattle.conditions.specs.Grammar.{ReadsConditions, condition_value}
use Rattle.guest_script.specs.Grammar.{Reads, Written}
use Rattle.guest_programs.specs.Programs.{IsProgram}
use Rattle.guest_programs.specs.Steps.{task_of}
use Rattle.outcome_statistics.specs.declared.judgement.Judgement.TheVariants as says
use Rattle.outcome_statistics.specs.Records.{EachIs, Tried}
use Rattle.test_report.specs.Statuses.{extents, verdicts}
use Rattle.test_report.specs.declared.report.FileReport.{FileReport}
use Rattle.test_report.specs.declared.report.Mode.{Mode}
use Rattle.test_report.specs.declared.report.Mode.TheVariants.{Test, Explore}
use Rattle.test_report.specs.declared.verdict.Extent.{Extent}
use Rattle.test_report.specs.declared.verdict.Verdict.{Verdict}
use Rattle.test_terms.specs.declared.options.Options.{Options}
use Rattle.all_orders.specs.Verdicts.{HoldsSo, points_of, widest}
use Rattle.tried_orders.specs.Verdicts.{AreRunsOf, AreTriedOf, HasNoMisfit, Say, TellsOrders, TellsRuns}

-- The bytes are this program, and have these conditions.
pub record IsProgramWith (bytes : List ℕ) (script : Written) (conditions : List Condition) : Type 0 where
  pub reads : Reads bytes script
  pub program : IsProgram script.content
  pub have : ReadsConditions bytes (map condition_value conditions)

-- The bytes are a program. All of its orders, on its board with the widest limit, meet each condition that the bytes have, and
-- some order has the step of each `some`. Each condition fits the board; unless it begins with `maybe`, it says something,
-- and if it is an `end`, some order ends. Without a condition some order ends, and none stuck. So many verdicts were found.
pub record AreMetByAll (bytes : List ℕ) (found : List Verdict) : Type 0 where
  pub script : Written
  pub conditions : List Condition
  pub are : IsProgramWith bytes script conditions
  pub each : (place : ℕ) → place < points_of conditions
      → HoldsSo (widest script.config) (task_of script.content) (slice_get conditions place)
  pub many : length found ≡ points_of conditions

-- Records were tried, some at least, and they meet each of these conditions, which have no misfit; without a condition none
-- ended stuck. The extents are right for these records (`Tells`).
pub record AreMetBy (harts : ℕ) (Tries : List Tried → Type 0) (Tells : List Tried → Extent → Type 0) (conditions : List Condition)
    (told : List Extent) : Type 0 where
  pub tried : List Tried
  pub are : Tries tried
  pub each : (place : ℕ) → place < points_of conditions → Say (slice_get conditions place) tried says.Holds
  pub fit : (place : ℕ) → place < points_of conditions → HasNoMisfit harts (slice_get conditions place)
  pub tells : EachIs (Tells tried) told

-- The bytes are a program. Those of its orders that were tried meet each condition that the bytes have, and so do the
-- records of runs on threads, if some were asked for. So many points were found, and the extent of each has the number of
-- tried records. If not all that were asked for were tried, there is a time limit.
pub record AreMetByTried (options : Options) (bytes : List ℕ) (file : FileReport) : Type 0 where
  pub script : Written
  pub conditions : List Condition
  pub are : IsProgramWith bytes script conditions
  pub orders_told : List Extent
  pub runs_told : List Extent
  pub orders : AreMetBy script.config.harts (AreTriedOf script.config script.content conditions options.seed options.orders file.is_cut)
      (TellsOrders options.seed) conditions orders_told
  pub runs : options.runs ≢ 0
      → AreMetBy script.config.harts (AreRunsOf script.config script.content conditions options.runs file.is_cut) TellsRuns conditions runs_told
  pub no_runs : options.runs ≡ 0 → runs_told ≡ []
  pub told : extents file ≡ orders_told ++ runs_told
  pub many : length (verdicts file) ≡ points_of conditions + (if options.runs == 0 then 0 else points_of conditions)
  pub time : file.is_cut ≡ true → options.limit.seconds ≢ None

-- The bytes are a schedule or a trace.
abbrev pub IsStepScript : List ℕ → Type 0
IsStepScript bytes = (script : Written) × Reads bytes script × (¬ IsProgram script.content)

-- What is so of bytes if each point of their file holds. (What schedules and traces meet is tested.)
abbrev pub AreAllMet : Options → Mode → List ℕ → FileReport → Type 0
AreAllMet options Explore bytes file = AreMetByAll bytes (verdicts file)
AreAllMet options Test bytes file = AreMetByAll bytes (verdicts file) ⊎ AreMetByTried options bytes file ⊎ IsStepScript bytes
