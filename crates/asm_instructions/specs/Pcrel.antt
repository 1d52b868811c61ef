-- Parts of distances: `%pcrel_hi(..)` and `%pcrel_lo(..)` (RISC-V psABI, PC-Relative Symbol Addresses; RISC-V Assembly Programmer's
-- Manual, Relocation Functions).
use Rattle.std.specs.Prelude.{ℕ, Bool, false, true, ◌&&◌, ◌==◌, if◌then◌else◌, List, [], ◌∷◌, codes, Option, Some, None, Result, Ok}
use Rattle.std.specs.Str.{bytes_eq}
use Rattle.asm_expressions.specs.declared.faults.Fault.{Fault}
use Rattle.asm_expressions.specs.declared.faults.Wrong.TheVariants.{NoHighPart, OutOfReach}
use Rattle.asm_expressions.specs.declared.symbols.PcrelHigh.{PcrelHigh}
use Rattle.asm_expressions.specs.Parts.{high_part, low_part}
use Rattle.asm_expressions.specs.Symbols.{Context}
use Rattle.asm_expressions.specs.Values.{left_or_end, value_of, wrong_at}
use Rattle.asm_tokens.specs.declared.marks.Mark.TheVariants.{Open, Percent}
use Rattle.asm_tokens.specs.Readings.{TokenSpot}
use Rattle.asm_tokens.specs.Tokens.{Lexeme}
use Rattle.asm_tokens.specs.Tokens.Lexeme.{Mark, Word}
use Rattle.asm_instructions.specs.Ranges.{distance, is_far}
use Rattle.asm_instructions.specs.Steps.{◌>>=◌}

-- ---- a function: `%`, its name, and an expression that begins with a parenthesis

abbrev pub is_function : (name : List ℕ) → Lexeme → Lexeme → Bool
is_function name (Mark Percent) (Word word) = bytes_eq word name
is_function name first second = false

abbrev pub is_open_mark : Lexeme → Bool
is_open_mark (Mark Open) = true
is_open_mark lexeme = false

abbrev pub begins_open : List TokenSpot → Bool
begins_open [] = false
begins_open (first ∷ rest) = is_open_mark first.lexeme

-- the expression behind the name of this function, if tokens begin with it
abbrev pub behind_name : (name : List ℕ) → List TokenSpot → Option (List TokenSpot)
behind_name name (first ∷ second ∷ rest) =
    if is_function name first.lexeme second.lexeme && begins_open rest then Some rest else None
behind_name name tokens = None

-- ---- `%pcrel_hi(SYMBOL)`

-- how far a symbol is, if AUIPC and 12 bits more reach it
abbrev pub near_distance : (here to : ℕ) → Option ℕ
near_distance here to = if is_far here to then None else Some (distance here to)

abbrev pub high_or : (left : ℕ) → Option ℕ → Result ℕ Fault
high_or left None = wrong_at OutOfReach left
high_or left (Some distance) = Ok (high_part distance)

-- the high part of a symbol's distance; `left` is the place of the function
abbrev pub high_of_symbol : Context → (left : ℕ) → List TokenSpot → Result ℕ Fault
high_of_symbol scope left tokens = do
  to ← value_of scope tokens
  high_or left (near_distance scope.here to)

abbrev pub high_by : Context → List TokenSpot → Option (List TokenSpot) → Result ℕ Fault
high_by scope tokens None = value_of scope tokens
high_by scope tokens (Some symbol) = high_of_symbol scope (left_or_end scope tokens) symbol

-- The immediate of AUIPC: a value, or the high part of its symbol's distance.
abbrev pub high_value : Context → List TokenSpot → Result ℕ Fault
high_value scope tokens = high_by scope tokens (behind_name (codes "pcrel_hi") tokens)

-- ---- `%pcrel_lo(LABEL)`

-- the distance of the first of these at an address
abbrev pub distance_at : (at : ℕ) → List PcrelHigh → Option ℕ
distance_at at [] = None
distance_at at (high ∷ highs) = if high.at == at then Some high.distance else distance_at at highs

abbrev pub low_or : (left : ℕ) → Option ℕ → Result ℕ Fault
low_or left None = wrong_at NoHighPart left
low_or left (Some distance) = Ok (low_part distance)

-- the low part of the distance that the AUIPC at a label has; `left` is the place of the function
abbrev pub low_at_label : Context → (left : ℕ) → List TokenSpot → Result ℕ Fault
low_at_label scope left tokens = do
  at ← value_of scope tokens
  low_or left (distance_at at scope.highs)

abbrev pub low_by : Context → List TokenSpot → Option (List TokenSpot) → Result ℕ Fault
low_by scope tokens None = value_of scope tokens
low_by scope tokens (Some label) = low_at_label scope (left_or_end scope tokens) label

-- An immediate of 12 bits: a value, or the low part of the distance of the AUIPC at a label. The part that the AUIPC gives and this
-- one add up to its symbol.
abbrev pub low_value : Context → List TokenSpot → Result ℕ Fault
low_value scope tokens = low_by scope tokens (behind_name (codes "pcrel_lo") tokens)
