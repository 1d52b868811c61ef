use Rattle.test_report.specs.declared.report.FileReport.{FileReport}
use Rattle.test_report.specs.Statuses.{EachPointHolds}
use Rattle.test_report.proofs.Lists.{EachBefore}
use Rattle.test_report.proofs.status.each_holds.Given as goal

abbrev pub invariant-loop-file : goal.invariant-loop-file
invariant-loop-file l = EachBefore (λ (x : FileReport). EachPointHolds x.points.items) l.files l.file-index
