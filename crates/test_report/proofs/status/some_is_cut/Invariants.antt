use Rattle.std.specs.Prelude.{◌≡◌, true}
use Rattle.test_report.specs.declared.report.FileReport.{FileReport}
use Rattle.test_report.proofs.Lists.{EachBefore}
use Rattle.test_report.proofs.status.some_is_cut.Given as goal

abbrev pub invariant-loop-file : goal.invariant-loop-file
invariant-loop-file l = EachBefore (λ (x : FileReport). ¬ (x.is_cut ≡ true)) l.files l.file-index
