-- Mnemonics as words (unprivileged ISA 20191213, 25; RISC-V Assembly Programmer's Manual, Pseudoinstructions).
use Rattle.std.specs.Prelude.{ℕ, ◌-◌, Bool, ◌||◌, if◌then◌else◌, List, [], ◌∷◌, codes, drop, length, map, take, Option, Some, None, option_and_then}
use Rattle.std.specs.Str.{bytes_eq}
use Rattle.asm_mnemonics.specs.declared.forms.OperandForm.{OperandForm}
use Rattle.asm_mnemonics.specs.declared.forms.OperandForm.TheVariants.{Amo, Refused}
use Rattle.asm_mnemonics.specs.declared.forms.Unsupported.{Unsupported}
use Rattle.asm_mnemonics.specs.declared.forms.Unsupported.TheVariants.{Reservation, Compressed, Float}
use Rattle.asm_mnemonics.specs.declared.mnemonics.TheConstants.{MNEMONICS}

-- the form in the first row with this word
abbrev pub row_form : (word : List ℕ) → List (List ℕ × OperandForm) → Option OperandForm
row_form word [] = None
row_form word (row ∷ rows) = if bytes_eq row.0 word then Some row.1 else row_form word rows

-- that of the table
unfoldable pub row_of : List ℕ → Option OperandForm
row_of word = row_form word (map (λ row. (row.0.now, row.1)) MNEMONICS)

abbrev pub word_begins : (front word : List ℕ) → Bool
word_begins front word = bytes_eq (take (length front) word) front

abbrev pub word_ends : (back word : List ℕ) → Bool
word_ends back word = bytes_eq (drop (length word - length back) word) back

-- the word without so many bytes at its end
abbrev pub without_end : List ℕ → (count : ℕ) → List ℕ
without_end word count = take (length word - count) word

-- why an instruction isn't obeyed: LR and SC, compressed ones, and those on floating-point numbers
abbrev pub refused : List ℕ → Option Unsupported
refused word =
    if word_begins (codes "lr.") word || word_begins (codes "sc.") word then Some Reservation
    else (if word_begins (codes "c.") word then Some Compressed
    else (if word_begins (codes "f") word then Some Float
    else None))

-- the word before the order of an AMO
abbrev pub before_order : List ℕ → Option (List ℕ)
before_order word =
    if word_ends (codes ".aqrl") word then Some (without_end word 5)
    else (if word_ends (codes ".aq") word then Some (without_end word 3)
    else (if word_ends (codes ".rl") word then Some (without_end word 3)
    else None))

abbrev pub only_amo : OperandForm → Option OperandForm
only_amo (Amo name) = Some (Amo name)
only_amo form = None

abbrev pub unsupported_or : Option Unsupported → Option OperandForm → Option OperandForm
unsupported_or None form = form
unsupported_or (Some refusal) form = Some (Refused refusal)

-- the form of a word that no row has: an instruction that isn't obeyed, or an AMO with its order
abbrev pub unlisted : List ℕ → Option OperandForm
unlisted word = unsupported_or (refused word) (option_and_then only_amo (option_and_then row_of (before_order word)))

abbrev pub form_or : Option OperandForm → Option OperandForm → Option OperandForm
form_or None other = other
form_or (Some form) other = Some form

-- The form of a mnemonic.
abbrev pub operands_of : List ℕ → Option OperandForm
operands_of word = form_or (row_of word) (unlisted word)
