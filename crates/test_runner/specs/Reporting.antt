-- What a report about files says, and its text (profile).
use Rattle.std.specs.Prelude.{◌≡◌, ◌↔◌, ℕ, ◌+◌, List, [], ◌∷◌, ◌++◌, length, take, slice_get, Option, Some, IfSome, false}
use Rattle.std.specs.Io.KnownBytes.{Appends}
use Rattle.guest_script.specs.Grammar.{most_bytes}
use Rattle.test_report.specs.declared.report.FileReport.{FileReport}
use Rattle.test_report.specs.declared.report.Report.{Report}
use Rattle.test_report.specs.declared.status.Status.{Status}
use Rattle.test_report.specs.declared.status.Status.TheVariants.{AllHold, SomeFail}
use Rattle.test_report.specs.Lines.{IsFileText, indented, note_sign, plan_line, version_line}
use Rattle.test_report.specs.Statuses.{EachHolds, EachPointHolds, IsWhole, SomeFails}
use Rattle.test_terms.specs.declared.options.Options.{Options}
use Rattle.test_runner.specs.Findings.{IsFoundOfFile}
use Rattle.test_runner.specs.Meeting.{AreAllMet}

-- how many bytes of a file are read at most: one more than a script may have
abbrev pub most_read : ℕ
most_read = most_bytes + 1

-- How many points files have.
abbrev pub points_in : List FileReport → ℕ
points_in [] = 0
points_in (file ∷ files) = length file.points.items + points_in files

-- The text of files, in order: each one's points have the numbers behind those of the files before it.
abbrev pub AreFileTexts : (before : ℕ) → List FileReport → List ℕ → Type 0
AreFileTexts before [] text = text ≡ []
AreFileTexts before (file ∷ files) text = (one rest : List ℕ) × (text ≡ one ++ rest) × IsFileText before file one
    × AreFileTexts (before + length file.points.items) files rest

-- The text of a report: the version, the files' points, the plan with the number of all points, and the summary.
pub record IsReportText (files : List FileReport) (text : List ℕ) : Type 0 where
  pub body : List ℕ
  pub said : List ℕ
  pub is : text ≡ version_line 13 ++ (body ++ (plan_line (points_in files) ++ indented note_sign said))
  pub texts : AreFileTexts 0 files body

-- The report about a file is that of its bytes, which are those of the file, up to the limit, where they are known; or it can't be read, which fails. If each of its points holds, so much is so of the bytes.
pub record IsReportOf (known : Option (List ℕ)) (options : Options) (file : FileReport) : Type 0 where
  pub bytes : List ℕ
  pub are : IfSome known (λ all. bytes ≡ take most_read all)
  pub found : IsFoundOfFile options bytes file
  pub met : EachPointHolds file.points.items → AreAllMet options options.mode bytes file

-- There is a report about each file, in order.
pub record AreReportsOf (bytes_of : List ℕ → Option (List ℕ)) (options : Options) (names : List (List ℕ)) (files : List FileReport)
    : Type 0 where
  pub many : length files ≡ length names
  pub each : (k : ℕ) (name : List ℕ) (file : FileReport) → slice_get names k ≡ Some name → slice_get files k ≡ Some file
      → IsReportOf (bytes_of name) options file

-- Files of these names were tested, and there is a report about each. The status is AllHold exactly if each file has
-- points, all of them hold, and nothing that was asked for was cut short; it is SomeFail exactly if some point fails.
-- If points are asked for, exactly the report's text was written.
pub record IsReported (bytes_of : List ℕ → Option (List ℕ)) (options : Options) (names : List (List ℕ)) (status : Status)
    (before after : Option (List ℕ)) : Type 0 where
  pub report : Report
  pub are : AreReportsOf bytes_of options names report.files.items
  pub mode : report.mode ≡ options.mode
  pub holds : (status ≡ AllHold) ↔ (EachHolds report.files.items × IsWhole report)
  pub fails : (status ≡ SomeFail) ↔ SomeFails report.files.items
  pub told : options.screen.is_read ≡ false → (text : List ℕ) × Appends before after text × IsReportText report.files.items text
