-- What `.map` and `.map48` say: a page under a root table, where it lies, and what it allows (profile).
use Rattle.std.specs.Prelude.{ℕ, ◌+◌, Bool, not, ◌&&◌, ◌||◌, ◌==◌, if◌then◌else◌, List, [], ◌∷◌, length, Option, Some, None, option_map}
use Rattle.std.specs.List.{list_any}
use Rattle.asm_instructions.specs.Operands.{behind_comma, operand_front}
use Rattle.asm_tokens.specs.declared.marks.Mark.TheVariants.{Comma}
use Rattle.asm_tokens.specs.Readings.{TokenSpot, spots_of}
use Rattle.asm_tokens.specs.Tokens.{Lexeme}
use Rattle.asm_tokens.specs.Tokens.Lexeme.{Mark, Word}
use Rattle.asm_program.specs.declared.maps.MapEnd.{MapEnd}
use Rattle.asm_program.specs.declared.maps.MapText.{MapText}
use Rattle.asm_program.specs.Sections.{◌>>=◌}

-- ---- its operands

-- the letters of what it allows, the name of its last entry, and the place of the name, or of the letters
pub record MapEnding : Type 0 where
  pub flags : List ℕ
  pub name : Option (List ℕ)
  pub left : ℕ

-- the root table, the page, where it lies, and the rest
pub record MapSaid : Type 0 where
  pub root : List TokenSpot
  pub page : List TokenSpot
  pub to : List TokenSpot
  pub end : MapEnding

abbrev pub ending_of : MapEnd → MapEnding
ending_of end = record { flags = end.flags.now; name = option_map (λ name. name.now) end.name; left = end.left }

abbrev pub map_said_of : MapText → MapSaid
map_said_of text = record {
  root = spots_of text.root.now;
  page = spots_of text.page.now;
  to = spots_of text.to.now;
  end = ending_of text.end;
}

abbrev pub only_flags : Lexeme → (left : ℕ) → Option MapEnding
only_flags (Word flags) left = Some (record { flags = flags; name = None; left = left })
only_flags lexeme left = None

abbrev pub named_flags : Lexeme → Lexeme → Lexeme → (left : ℕ) → Option MapEnding
named_flags (Word flags) (Mark Comma) (Word name) left = Some (record { flags = flags; name = Some name; left = left })
named_flags first second third left = None

abbrev pub flags_and_name : List TokenSpot → Option MapEnding
flags_and_name (flags ∷ []) = only_flags flags.lexeme flags.left
flags_and_name (flags ∷ comma ∷ name ∷ []) = named_flags flags.lexeme comma.lexeme name.lexeme name.left
flags_and_name tokens = None

-- `ROOT, PAGE, TO, FLAGS`, or `ROOT, PAGE, TO, FLAGS, NAME`
abbrev pub map_said : List TokenSpot → Option MapSaid
map_said operands = do
  second ← behind_comma operands
  third ← behind_comma second
  rest ← behind_comma third
  end ← flags_and_name rest
  Some (record { root = operand_front operands; page = operand_front second; to = operand_front third; end = end })

-- ---- its letters: r, w, x, g, a and d, each at most once

abbrev pub has_letter : (letter : ℕ) → (word : List ℕ) → Bool
has_letter letter word = list_any (λ b. b == letter) word

abbrev pub letter_bit : (word : List ℕ) → (letter bit : ℕ) → ℕ
letter_bit word letter bit = if has_letter letter word then bit else 0

-- how many of these letters there are
abbrev pub letters : (word : List ℕ) → ℕ
letters word = letter_bit word 114 1 + letter_bit word 119 1 + letter_bit word 120 1 + letter_bit word 103 1 + letter_bit word 97 1 + letter_bit word 100 1

-- V, and the bits of the letters (Privileged 20211203, 4.3.1)
abbrev pub letter_bits : (word : List ℕ) → ℕ
letter_bits word = 1 + letter_bit word 114 2 + letter_bit word 119 4 + letter_bit word 120 8 + letter_bit word 103 32 + letter_bit word 97 64 + letter_bit word 100 128

-- R, or X without W: none of the three would be a pointer, and W without R is reserved (Privileged 4.3.1)
abbrev pub is_leaf_word : (word : List ℕ) → Bool
is_leaf_word word = (letters word == length word) && (has_letter 114 word || (has_letter 120 word && not (has_letter 119 word)))

-- The low bits of the entry that these letters say.
abbrev pub leaf_bits : (word : List ℕ) → Option ℕ
leaf_bits word = if is_leaf_word word then Some (letter_bits word) else None
