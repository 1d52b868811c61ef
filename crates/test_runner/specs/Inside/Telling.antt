-- What was printed of a page: what the functions of this crate tell each other.
use Rattle.std.specs.Prelude.{◌≡◌, ℕ, ◌+◌, List, [], ◌++◌, length, Option, string_bytes}
use Rattle.std.specs.Io.KnownBytes.{Appends}
use Rattle.test_report.specs.declared.page.Page.{Page}
use Rattle.test_report.specs.declared.page.Style.TheVariants.{Tap}
use Rattle.test_report.specs.declared.report.FileReport.{FileReport}
use Rattle.test_report.specs.Lines.{IsFileText, indented, note_sign, plan_line, version_line}
use Rattle.test_runner.specs.Reporting.{AreFileTexts, points_in}

-- a page before any file, of which nothing was printed
pub record IsBegun (page : Page) : Type 0 where
  pub text : string_bytes page.text ≡ version_line 13
  pub tap : page.style ≡ Tap
  pub none : page.points ≡ 0

-- what a page held was printed, and it holds nothing
pub record HasTold (old new : Page) (before after : Option (List ℕ)) : Type 0 where
  pub printed : Appends before after (string_bytes old.text)
  pub empty : string_bytes new.text ≡ []
  pub style : new.style ≡ old.style
  pub points : new.points ≡ old.points

-- what it held was printed, and behind it the text of a file
pub record TellsFile (old new : Page) (file : FileReport) (before after : Option (List ℕ)) : Type 0 where
  pub text : List ℕ
  pub printed : Appends before after (string_bytes old.text ++ text)
  pub is : IsFileText old.points file text
  pub empty : string_bytes new.text ≡ []
  pub tap : new.style ≡ Tap
  pub points : new.points ≡ old.points + length file.points.items

-- what it held was printed, and behind it the plan and a summary
pub record TellsEnd (old : Page) (before after : Option (List ℕ)) : Type 0 where
  pub said : List ℕ
  pub printed : Appends before after (string_bytes old.text ++ (plan_line old.points ++ indented note_sign said))

-- so far the version and the texts of files were printed, but for what the page holds
pub record TellsFiles (page : Page) (files : List FileReport) (before after : Option (List ℕ)) : Type 0 where
  pub text : List ℕ
  pub printed : Appends before after text
  pub body : List ℕ
  pub is : text ++ string_bytes page.text ≡ version_line 13 ++ body
  pub are : AreFileTexts 0 files body
  pub tap : page.style ≡ Tap
  pub points : page.points ≡ points_in files
