use Rattle.std.proofs.Common.{◌≡◌, ℕ, List, [], inr, refl, subst}
use Rattle.std.specs.Prelude.{Option, Some, None, IfSome, take}
use Rattle.test_report.specs.declared.report.FileReport.{FileReport}
use Rattle.test_terms.specs.declared.options.Options.{Options}
use Rattle.test_runner.specs.Findings.{IsFoundOfFile}
use Rattle.test_runner.specs.Reporting.{IsReportOf, most_read}
use Rattle.test_runner.proofs.Lists.{verdicts-hold}
use Rattle.test_runner.proofs.Meeting.{met}
use Rattle.test_runner.proofs.testing.test_file.Goals as goal

report-of : (known : Option (List ℕ)) (options : Options) (file : FileReport) (bytes : List ℕ) → IfSome known (λ all. bytes ≡ take most_read all)
    → IsFoundOfFile options bytes file → IsReportOf known options file
report-of known options file bytes are found = record {
  bytes = bytes;
  are = are;
  found = found;
  met = (λ all. met options bytes file found (verdicts-hold file.points.items all.each));
}

-- the bytes of a file that can't be read
unread : (known : Option (List ℕ)) → (bytes : List ℕ) × IfSome known (λ all. bytes ≡ take most_read all)
unread None = ([], tt)
unread (Some all) = (take most_read all, refl)

pub returns-in_ok-test_text-in-Ok : goal.returns-in_ok-test_text-in-Ok
returns-in_ok-test_text-in-Ok g c =
    report-of (g.T.Texts.bytes c.args.texts.now c.args.file.now) c.args.options.now c.in_ok-test_text-in-Ok.field-0 c.in-Ok.text.items c.in-Ok.ensures
    (subst (λ (bytes : List ℕ). IsFoundOfFile c.args.options.now bytes c.in_ok-test_text-in-Ok.field-0)
    c.deref.ensures.value c.in_ok-test_text-in-Ok.ensures)

pub returns-in_ok-untested-in-Err : goal.returns-in_ok-untested-in-Err
returns-in_ok-untested-in-Err g c =
    let some = unread (g.T.Texts.bytes c.args.texts.now c.args.file.now) in
    report-of (g.T.Texts.bytes c.args.texts.now c.args.file.now) c.args.options.now c.in_ok-untested-in-Err.field-0 some.0 some.1 (inr c.in_ok-untested-in-Err.ensures)
