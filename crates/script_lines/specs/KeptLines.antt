-- Lines in their packed form (profile).
use Rattle.std.specs.Prelude.{◌≡◌, ℕ, ◌+◌, ◌<◌, List, [], ◌∷◌, take, drop, length, is_some}
use Rattle.script_lines.specs.declared.line_shape.LineShape.{LineShape}
use Rattle.script_lines.specs.declared.lines.TheConstants.{MOST_LINES}
use Rattle.script_lines.specs.declared.plain.Plain.{Plain}
use Rattle.script_lines.specs.declared.script.Doing.TheVariants.{Step}
use Rattle.script_lines.specs.declared.script.Line.{Line}
use Rattle.script_lines.specs.Packing.{DoingFits, doing_made, op_made, said_count, said_made}

-- the number of a line's numbers, and of all lines' numbers
abbrev pub number_count : LineShape → ℕ
number_count kept = kept.op_count + said_count kept.said

abbrev pub total_count : List LineShape → ℕ
total_count [] = 0
total_count (first ∷ kept) = number_count first + total_count kept

-- the line of a shape and its numbers
abbrev pub line_of : LineShape → (numbers : List ℕ) → Line
line_of kept numbers = record {
  number = kept.number;
  doing = doing_made kept.doing (take kept.op_count numbers);
  said = said_made kept.said (drop kept.op_count numbers);
}

-- the lines of these shapes, whose numbers follow one another
abbrev pub lines_of : (numbers : List ℕ) → List LineShape → List Line
lines_of numbers [] = []
lines_of numbers (first ∷ kept) =
    line_of first (take (number_count first) numbers) ∷ lines_of (drop (number_count first) numbers) kept

-- the line of these parts
abbrev pub plain_line : (number : ℕ) → Plain → (numbers : List ℕ) → Line
plain_line number plain
    numbers = record { number = number; doing = Step plain.actor (op_made plain.op numbers); said = plain.said }

-- If there are lines, this line has a reply if and only if the first of them has one: a trace's lines all have one, a
-- schedule's none.
abbrev pub IsLike : List Line → Line → Type 0
IsLike [] line = Unit {0}
IsLike (first ∷ lines) line = is_some first.said ≡ is_some line.said

-- A line can follow these lines: it is of their kind, its hart is at most 127, and its number and their count are below
-- 2^28 (profile).
pub record CanFollow (lines : List Line) (line : Line) : Type 0 where
  pub few : length lines < MOST_LINES
  pub number : line.number < MOST_LINES
  pub actor : DoingFits line.doing
  pub like : IsLike lines line
