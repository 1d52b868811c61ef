-- Strings, and their escapes (GNU as, Strings; profile: an octal escape has three digits).
use Rattle.std.specs.Prelude.{ℕ, zero, suc, ◌+◌, ◌-◌, ◌*◌, ◌%◌, ◌^◌, Bool, ◌&&◌, ◌||◌, ◌==◌, if◌then◌else◌, List, [], ◌∷◌, length, Option, Some, None, option_and_then, option_map, Result, Ok}
use Rattle.std.specs.Int.{is_in_range}
use Rattle.asm_expressions.specs.declared.faults.Fault.{Fault}
use Rattle.asm_expressions.specs.declared.faults.Wrong.TheVariants.{BadOperands}
use Rattle.asm_expressions.specs.Values.{wrong_at}
use Rattle.asm_tokens.specs.Readings.{TokenSpot}
use Rattle.asm_tokens.specs.Tokens.{Lexeme}
use Rattle.asm_tokens.specs.Tokens.Lexeme.{Text}
use Rattle.asm_program.specs.declared.data.Datum.{Datum}
use Rattle.asm_program.specs.Data.{datum_at}

-- ---- the bytes of a string

-- `\b`, `\f`, `\n`, `\r`, `\t`; `\\` and `\"`
abbrev pub letter_escape : (letter : ℕ) → Option ℕ
letter_escape letter =
    if letter == 98 then Some 8
    else (if letter == 102 then Some 12
    else (if letter == 110 then Some 10
    else (if letter == 114 then Some 13
    else (if letter == 116 then Some 9
    else (if (letter == 92) || (letter == 34) then Some letter
    else None)))))

abbrev pub is_octal : ℕ → Bool
is_octal digit = is_in_range 48 55 digit

-- `\000` to `\377`
abbrev pub octal_escape : (a b c : ℕ) → Option ℕ
octal_escape a b c =
    if is_in_range 48 51 a && is_octal b && is_octal c then Some ((a - 48) * 64 + (b - 48) * 8 + (c - 48)) else None

abbrev pub before_rest : (rest : List ℕ) → Option ℕ → Option (ℕ × List ℕ)
before_rest rest byte = option_map (λ b. (b, rest)) byte

abbrev pub octal_in : (first : ℕ) → List ℕ → Option (ℕ × List ℕ)
octal_in first (second ∷ third ∷ rest) = before_rest rest (octal_escape first second third)
octal_in first text = None

abbrev pub escape_by : (first : ℕ) → List ℕ → Option ℕ → Option (ℕ × List ℕ)
escape_by first text (Some byte) = Some (byte, text)
escape_by first text None = octal_in first text

-- the byte of an escape, whose `\` stands before the text, and the text behind it
abbrev pub escape_in : List ℕ → Option (ℕ × List ℕ)
escape_in [] = None
escape_in (first ∷ text) = escape_by first text (letter_escape first)

-- the byte that a text begins with, and the text behind it
abbrev pub byte_in : List ℕ → Option (ℕ × List ℕ)
byte_in [] = None
byte_in (first ∷ text) = if first == 92 then escape_in text else Some (first, text)

abbrev pub bytes_by : (later : List ℕ → Option (List ℕ)) → Option (ℕ × List ℕ) → Option (List ℕ)
bytes_by later None = None
bytes_by later (Some one) = option_map (λ more. one.0 ∷ more) (later one.1)

abbrev pub bytes_in : (tail : List ℕ) → (n : ℕ) → List ℕ → Option (List ℕ)
bytes_in tail zero text = Some tail
bytes_in tail (suc n) [] = Some tail
bytes_in tail (suc n) (first ∷ text) = bytes_by (bytes_in tail n) (byte_in (first ∷ text))

-- The bytes that stand between a string's quotes, with others behind them. (There are no more than characters.)
abbrev pub string_bytes : (tail : List ℕ) → (text : List ℕ) → Option (List ℕ)
string_bytes tail text = bytes_in tail (length text) text

-- ---- directives of strings

abbrev pub quoted_text : Lexeme → Option (List ℕ)
quoted_text (Text text) = Some text
quoted_text lexeme = None

-- one string, and nothing else
abbrev pub only_text : List TokenSpot → Option (List ℕ)
only_text (only ∷ []) = quoted_text only.lexeme
only_text tokens = None

-- a 0 behind a string's bytes, or none
abbrev pub tail_of : (is_ended : Bool) → List ℕ
tail_of is_ended = if is_ended then 0 ∷ [] else []

abbrev pub operand_bytes : (is_ended : Bool) → List TokenSpot → Option (List ℕ)
operand_bytes is_ended operands = option_and_then (string_bytes (tail_of is_ended)) (only_text operands)

abbrev pub size_or : (left : ℕ) → Option ℕ → Result ℕ Fault
size_or left None = wrong_at BadOperands left
size_or left (Some size) = Ok size

-- how many bytes a directive's string has
abbrev pub string_size : (is_ended : Bool) → (left : ℕ) → List TokenSpot → Result ℕ Fault
string_size is_ended left operands = size_or left (option_map length (operand_bytes is_ended operands))

abbrev pub bytes_at : (at : ℕ) → List ℕ → List Datum
bytes_at at [] = []
bytes_at at (byte ∷ bytes) = datum_at at 1 byte ∷ bytes_at ((at + 1) % 2 ^ 64) bytes

abbrev pub placed_or : (at left : ℕ) → Option (List ℕ) → Result (List Datum) Fault
placed_or at left None = wrong_at BadOperands left
placed_or at left (Some bytes) = Ok (bytes_at at bytes)

-- The bytes of a directive's string, one behind the other.
abbrev pub string_data : (at : ℕ) → (is_ended : Bool) → (left : ℕ) → List TokenSpot → Result (List Datum) Fault
string_data at is_ended left operands = placed_or at left (operand_bytes is_ended operands)
