-- What is found of a file's bytes, in the order of its conditions (profile).
use Rattle.std.specs.Prelude.{◌≡◌, ◌≢◌, ◌⊎◌, ℕ, List, [], ◌∷◌, ◌++◌, map, Option, Some, None, true}
use Rattle.conditions.specs.Condition.{Condition}
use Rattle.conditions.specs.Grammar.{ReadsConditions, condition_value}
use Rattle.guest_script.specs.Grammar.{Reads, content, written}
use Rattle.guest_programs.specs.Programs.{IsProgram}
use Rattle.guest_programs.specs.Steps.{task_of}
use Rattle.outcome_statistics.specs.Records.{EachIs}
use Rattle.script_lines.specs.declared.script.Script.{Script}
use Rattle.test_report.specs.Statuses.{extents, verdicts}
use Rattle.test_report.specs.declared.report.FileReport.{FileReport}
use Rattle.test_report.specs.declared.report.Mode.{Mode}
use Rattle.test_report.specs.declared.report.Mode.TheVariants.{Test, Explore}
use Rattle.test_report.specs.declared.verdict.Extent.{Extent}
use Rattle.test_report.specs.declared.verdict.Verdict.{Verdict}
use Rattle.test_report.specs.declared.verdict.Verdict.TheVariants.{Fails}
use Rattle.test_terms.specs.declared.options.Options.{Options}
use Rattle.all_orders.specs.Verdicts.{AreVerdicts, widest}
use Rattle.tried_orders.specs.Verdicts.{AddsOrders, AddsRuns}

module _ (options : Options) (script : Script) (conditions : List Condition) where
  -- By all orders of a program, on its board with the widest limit, one verdict is found of each condition. (The limits of time
  -- and of states: where both are none, each condition is judged.)
  pub record IsExplored (seconds states : Option ℕ) (found : List Verdict) : Type 0 where
    pub program : IsProgram (content script.body)
    pub are : AreVerdicts (widest script.config) (task_of (content script.body)) seconds states conditions found

  -- By the orders of a program that were tried one point is found of each condition, and, if runs on threads were asked
  -- for, one more by their records. They are cut short only if there is a time limit.
  pub record AreTried (file : FileReport) : Type 0 where
    pub program : IsProgram (content script.body)
    pub begun : FileReport
    pub none : begun.points.items ≡ []
    pub first : FileReport
    pub orders : AddsOrders options script.config (content script.body) conditions file.is_cut begun first
    pub no_runs : options.runs ≡ 0 → file.points ≡ first.points
    pub runs : options.runs ≢ 0 → AddsRuns options script.config (content script.body) conditions file.is_cut first file
    pub time : file.is_cut ≡ true → options.limit.seconds ≢ None

  -- What is found of a script. `explore` looks at all orders of a program, up to the limits, and no other script has orders. `test`
  -- looks at all orders, and judges each condition by them, or at some. (What it finds of schedules and traces is tested.)
  abbrev pub IsFoundOf : Mode → FileReport → Type 0
  IsFoundOf Explore file = IsExplored options.limit.seconds (Some options.states) (verdicts file)
      ⊎ ((¬ IsProgram (content script.body)) × (verdicts file ≡ Fails ∷ []))
  IsFoundOf Test file = IsExplored None None (verdicts file) ⊎ AreTried file ⊎ (¬ IsProgram (content script.body))

-- What is found of bytes: they are this script and have these conditions, so much is found of these, and then something
-- fails for each comment that looks like a condition.
pub record IsFoundOfScript (options : Options) (bytes : List ℕ) (file : FileReport) : Type 0 where
  pub script : Script
  pub conditions : List Condition
  pub reads : Reads bytes (written script)
  pub have : ReadsConditions bytes (map condition_value conditions)
  pub judged : FileReport
  pub is : IsFoundOf options script conditions options.mode judged
  pub is_cut : file.is_cut ≡ judged.is_cut
  pub odd : List Verdict
  pub parts : verdicts file ≡ verdicts judged ++ odd
  pub fail : EachIs (λ verdict. verdict ≡ Fails) odd
  pub told : List Extent
  pub reached : extents file ≡ extents judged ++ told

-- What is found of a file of these bytes: what is found of them, or that it can't be tested, which fails.
abbrev pub IsFoundOfFile : Options → List ℕ → FileReport → Type 0
IsFoundOfFile options bytes file = IsFoundOfScript options bytes file ⊎ (verdicts file ≡ Fails ∷ [])
