use Rattle.test_report.specs.declared.point.Point.{Point}
use Rattle.test_report.specs.Statuses.{IsFailing}
use Rattle.test_report.proofs.Lists.{EachBefore}
use Rattle.test_report.proofs.status.has_failing.Given as goal

abbrev pub invariant-loop-point : goal.invariant-loop-point
invariant-loop-point l = EachBefore (λ (x : Point). ¬ IsFailing x.verdict) l.points l.point-index
