use Rattle.std.proofs.Common.{◌≡◌, List, true, subst}
use Rattle.std.specs.Prelude.{◌↔◌}
use Rattle.test_report.specs.declared.report.FileReport.{FileReport}
use Rattle.test_report.specs.Statuses.{SomeIsCut}
use Rattle.test_report.proofs.report.Report.is_cut.Goals as goal

pub returns : goal.returns
returns c = subst (λ (files : List FileReport). (c.some_is_cut.result ≡ true) ↔ SomeIsCut files) c.deref.ensures.value c.some_is_cut.ensures
