use Rattle.std.specs.Prelude.{◌≡◌}
use Rattle.test_report.specs.declared.point.Point.{Point}
use Rattle.test_report.specs.declared.verdict.Verdict.TheVariants.{Holds}
use Rattle.test_report.proofs.Lists.{EachBefore}
use Rattle.test_report.proofs.status.each_point_holds.Given as goal

abbrev pub invariant-loop-point : goal.invariant-loop-point
invariant-loop-point l = EachBefore (λ (x : Point). x.verdict ≡ Holds) l.points l.point-index
