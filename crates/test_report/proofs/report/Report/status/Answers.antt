use Rattle.std.proofs.Common.{◌≡◌, List, subst}
use Rattle.std.specs.Prelude.{◌↔◌}
use Rattle.test_report.specs.declared.report.FileReport.{FileReport}
use Rattle.test_report.specs.declared.status.Status.TheVariants.{SomeFail}
use Rattle.test_report.specs.Statuses.{SomeFails}
use Rattle.test_report.proofs.report.Report.status.Goals as goal

pub returns-clause-fails : goal.returns-clause-fails
returns-clause-fails c = subst (λ (files : List FileReport). (c.status_by.result ≡ SomeFail) ↔ SomeFails files) c.deref.ensures.value c.status_by.ensures.fails
