-- The parts of a program: labels, each with its `:`, and statements (GNU as, Statements, Labels).
use Rattle.std.specs.Prelude.{ℕ, zero, suc, Bool, false, if◌then◌else◌, List, [], ◌∷◌, drop, length, take}
use Rattle.asm_tokens.specs.declared.marks.Mark.TheVariants.{Colon}
use Rattle.asm_tokens.specs.Readings.{TokenSpot, spots_of}
use Rattle.asm_tokens.specs.Statements.{is_end}
use Rattle.asm_tokens.specs.Tokens.{Lexeme}
use Rattle.asm_tokens.specs.Tokens.Lexeme.{Mark, End}
use Rattle.asm_program.specs.declared.parts.Part.{Part}

-- a part: its tokens, and the number of bytes from its end to the end of the text
pub record Piece : Type 0 where
  pub tokens : List TokenSpot
  pub end : ℕ

abbrev pub piece_of : Part → Piece
piece_of part = record { tokens = spots_of part.tokens.now; end = part.end }

abbrev pub cut_by : Lexeme → (later : ℕ) → ℕ
cut_by End later = 0
cut_by (Mark Colon) later = 1
cut_by lexeme later = suc later

-- the number of tokens of the first part: up to the end of a statement, or with the `:` of a label
abbrev pub part_length : List TokenSpot → ℕ
part_length [] = 0
part_length (token ∷ tokens) = cut_by token.lexeme (part_length tokens)

-- the place of the first token, or of the end of the text
abbrev pub place_of_end : List TokenSpot → ℕ
place_of_end [] = 0
place_of_end (token ∷ tokens) = token.left

-- whether tokens begin with the end of a statement
abbrev pub begins_with_end : List TokenSpot → Bool
begins_with_end [] = false
begins_with_end (token ∷ tokens) = is_end token.lexeme

-- the tokens behind it
abbrev pub behind_end : List TokenSpot → List TokenSpot
behind_end tokens = if begins_with_end tokens then drop 1 tokens else tokens

abbrev pub first_part : List TokenSpot → Piece
first_part tokens = record { tokens = take (part_length tokens) tokens; end = place_of_end (drop (part_length tokens) tokens) }

abbrev pub behind_part : List TokenSpot → List TokenSpot
behind_part tokens = behind_end (drop (part_length tokens) tokens)

abbrev pub parts_by : (later : List TokenSpot → List Piece) → List TokenSpot → List Piece
parts_by later [] = []
parts_by later (token ∷ tokens) = first_part (token ∷ tokens) ∷ later (behind_part (token ∷ tokens))

abbrev pub parts_in : (n : ℕ) → List TokenSpot → List Piece
parts_in zero tokens = []
parts_in (suc n) tokens = parts_by (parts_in n) tokens

-- The parts of a program. (There are no more than tokens.)
abbrev pub parts_of : List TokenSpot → List Piece
parts_of tokens = parts_in (length tokens) tokens
