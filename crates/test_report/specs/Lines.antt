-- The lines of the Test Anything Protocol, version 13: points, and the plan.
use Rattle.std.specs.Prelude.{◌≡◌, ◌↔◌, ℕ, ◌+◌, Bool, true, ◌==◌, ◌||◌, if◌then◌else◌, List, [], ◌∷◌, ◌++◌, codes, decimal, flat_map, chars, string_bytes, Option, Some, None}
use Rattle.std.specs.Char.{encode_utf8, is_control}
use Rattle.test_report.specs.declared.point.Point.{Point}
use Rattle.test_report.specs.declared.verdict.Verdict.TheVariants.{Holds}
use Rattle.test_report.specs.declared.report.FileReport.{FileReport}

-- The first line: the version of the protocol.
abbrev pub version_line : (version : ℕ) → List ℕ
version_line version = (codes "TAP version " ++ decimal version) ++ 10 ∷ []

-- a character as it is shown: a control character is a question mark
abbrev pub shown_as : ℕ → ℕ
shown_as letter = if is_control letter then 63 else letter

-- a character of a name: readers interpret `#` and the backslash, so these stand behind a backslash
abbrev pub letter_text : ℕ → List ℕ
letter_text letter = (if (letter == 35) || (letter == 92) then 92 ∷ [] else []) ++ encode_utf8 (shown_as letter)

-- A name as readers take it: one line, in which nothing is a directive.
abbrev pub escaped : List ℕ → List ℕ
escaped name = flat_map letter_text (chars name)

-- The line of a point: `ok` or `not ok`, its number, its name, and what is said of it.
abbrev pub point_line : (number : ℕ) → (holds : Bool) → (name said : List ℕ) → List ℕ
point_line number holds name said =
    (((if holds then [] else codes "not ") ++ codes "ok ") ++ (decimal number ++ codes " - "))
    ++ (escaped name ++ (escaped said ++ 10 ∷ []))

-- The plan: how many points there are.
abbrev pub plan_line : (points : ℕ) → List ℕ
plan_line points = (codes "1.." ++ decimal points) ++ 10 ∷ []

-- a character of a text behind a margin, which stands before each line
abbrev pub indented_letter : (margin : List ℕ) → ℕ → List ℕ
indented_letter margin letter = if letter == 10 then 10 ∷ margin else encode_utf8 letter

-- A text behind a margin: each of its lines begins with it.
abbrev pub indented : (margin text : List ℕ) → List ℕ
indented margin text = (margin ++ flat_map (indented_letter margin) (chars text)) ++ 10 ∷ []

-- the margin of details below a point
abbrev pub below_point : List ℕ
below_point = codes "  "

-- what stands before each line of a note and of the summary
abbrev pub note_sign : List ℕ
note_sign = codes "# "

-- The details of a point, if there are some: a block, each line of which begins with two blanks.
abbrev pub block_text : Option (List ℕ) → List ℕ
block_text None = []
block_text (Some details) = indented below_point details

-- Notes: each line begins with the sign.
abbrev pub notes_text : List (List ℕ) → List ℕ
notes_text notes = flat_map (indented note_sign) notes

-- The text of a point of this number: its line, with `ok` exactly where it holds, its details, and the notes behind it.
pub record IsPointText (number : ℕ) (point : Point) (text : List ℕ) : Type 0 where
  pub holds : Bool
  pub ok : (holds ≡ true) ↔ (point.verdict ≡ Holds)
  pub said : List ℕ
  pub details : Option (List ℕ)
  pub notes : List (List ℕ)
  pub is : text ≡ point_line number holds (string_bytes point.name) said ++ (block_text details ++ notes_text notes)

-- The text of points, in order, each with the number behind that of the point before it.
abbrev pub AreNumbered : (before : ℕ) → List Point → List ℕ → Type 0
AreNumbered before [] text = text ≡ []
AreNumbered before (point ∷ points) text = (one rest : List ℕ) × (text ≡ one ++ rest) × IsPointText (before + 1) point one
    × AreNumbered (before + 1) points rest

-- The text of a file: the notes before its first point, and its points.
abbrev pub IsFileText : (before : ℕ) → FileReport → List ℕ → Type 0
IsFileText before file text = (head : List (List ℕ)) × (rest : List ℕ) × (text ≡ notes_text head ++ rest)
    × AreNumbered before file.points.items rest
