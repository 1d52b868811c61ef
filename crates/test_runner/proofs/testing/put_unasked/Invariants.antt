use Rattle.std.proofs.Common.{◌≡◌, ◌++◌, List}
use Rattle.outcome_statistics.specs.Records.{EachIs}
use Rattle.test_report.specs.Statuses.{extents, verdicts}
use Rattle.test_report.specs.declared.verdict.Extent.{Extent}
use Rattle.test_report.specs.declared.verdict.Verdict.{Verdict}
use Rattle.test_report.specs.declared.verdict.Verdict.TheVariants.{Fails}
use Rattle.test_runner.proofs.testing.put_unasked.Given as goal

-- what was added so far fails
abbrev pub invariant-loop-line : goal.invariant-loop-line
invariant-loop-line g l =
    (l.found.is_cut ≡ l.fn.found.is_cut)
    × ((odd : List Verdict) × (verdicts l.found ≡ verdicts l.fn.found ++ odd) × EachIs (λ verdict. verdict ≡ Fails) odd)
    × ((told : List Extent) × (extents l.found ≡ extents l.fn.found ++ told))
