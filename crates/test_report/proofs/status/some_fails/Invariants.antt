use Rattle.test_report.specs.declared.report.FileReport.{FileReport}
use Rattle.test_report.specs.Statuses.{HasFailing}
use Rattle.test_report.proofs.Lists.{EachBefore}
use Rattle.test_report.proofs.status.some_fails.Given as goal

abbrev pub invariant-loop-file : goal.invariant-loop-file
invariant-loop-file l = EachBefore (λ (x : FileReport). ¬ HasFailing x.points.items) l.files l.file-index
