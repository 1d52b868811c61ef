use Rattle.std.specs.Prelude.{◌≡◌, ℕ, Option, length}
use Rattle.guest_programs.specs.Steps.{Task}
use Rattle.test_report.specs.Statuses.{verdicts}
use Rattle.all_orders.specs.Inside.Told.{AreTold, IsSeen}
use Rattle.all_orders.specs.Verdicts.{EachIsVerdict}
use Rattle.all_orders.proofs.points.put_points.Given as goal

abbrev pub invariant-loop-place : goal.invariant-loop-place
invariant-loop-place g l = (length (verdicts l.file) ≡ l.place) × (l.file.is_cut ≡ l.fn.file.is_cut)
    × ((p : Task) (seconds states : Option ℕ) → AreTold l.search.scope.now.widest p seconds states l.search.trial.now.case.conditions.now l.answers
    → IsSeen l.search.scope.now.widest p seconds states l.search.trial.now.case.conditions.now l.found
    → EachIsVerdict l.search.scope.now.widest p seconds states l.search.trial.now.case.conditions.now (verdicts l.file))
