-- The text of a point before the notes behind it: what the functions of this crate tell each other.
use Rattle.std.specs.Prelude.{◌≡◌, ◌↔◌, ℕ, Bool, true, List, ◌++◌, string_bytes, Option}
use Rattle.test_report.specs.declared.point.Point.{Point}
use Rattle.test_report.specs.declared.verdict.Verdict.TheVariants.{Holds}
use Rattle.test_report.specs.Lines.{block_text, point_line}

-- its line, and its details
pub record IsBare (number : ℕ) (point : Point) (text : List ℕ) : Type 0 where
  pub holds : Bool
  pub ok : (holds ≡ true) ↔ (point.verdict ≡ Holds)
  pub said : List ℕ
  pub details : Option (List ℕ)
  pub is : text ≡ point_line number holds (string_bytes point.name) said ++ block_text details
