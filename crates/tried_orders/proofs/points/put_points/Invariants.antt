use Rattle.std.proofs.Common.{◌≡◌, ◌++◌, ℕ, List, length}
use Rattle.outcome_statistics.specs.Findings.{AreFound}
use Rattle.outcome_statistics.specs.Records.{EachIs, Tried}
use Rattle.test_report.specs.declared.verdict.Extent.{Extent}
use Rattle.test_report.specs.declared.verdict.Verdict.{Verdict}
use Rattle.test_report.specs.Statuses.{extents, verdicts}
use Rattle.tried_orders.specs.Inside.Judging.{TellsOf}
use Rattle.tried_orders.specs.Verdicts.{EachIsFoundBy}
use Rattle.tried_orders.proofs.points.put_points.Given as goal

-- the places so far have their points
abbrev pub invariant-loop-place : goal.invariant-loop-place
invariant-loop-place g l =
    (l.file.is_cut ≡ l.fn.file.is_cut)
    × ((more : List Verdict) × (verdicts l.file ≡ verdicts l.fn.file ++ more) × (length more ≡ l.place)
    × ((harts : ℕ) (records : List Tried) → AreFound harts l.trial.case.conditions.now records l.found
    → EachIsFoundBy l.trial.script.now.config.harts l.fn.file.is_cut l.trial.case.conditions.now records more))
    × ((told : List Extent) × (extents l.file ≡ extents l.fn.file ++ told)
    × ((harts : ℕ) (records : List Tried) → AreFound harts l.trial.case.conditions.now records l.found
    → EachIs (TellsOf l.source l.trial.options.now.seed records) told))
