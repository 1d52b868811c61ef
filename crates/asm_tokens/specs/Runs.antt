-- How far a word, blanks, a string and a comment go (GNU as, Comments, Strings).
use Rattle.std.specs.Prelude.{ℕ, suc, ◌+◌, Bool, not, ◌&&◌, ◌==◌, if◌then◌else◌, List, [], ◌∷◌, drop, Option, Some, None}
use Rattle.asm_tokens.specs.declared.runs.Run.{Run}
use Rattle.asm_tokens.specs.declared.runs.Run.TheVariants.{Blanks, Word, Line}
use Rattle.asm_tokens.specs.Bytes.{is_asm_blank, is_inline, is_letter}

-- whether a byte belongs to such a run
abbrev pub is_in : Run → ℕ → Bool
is_in Blanks b = is_asm_blank b
is_in Word b = is_letter b
is_in Line b = is_inline b

-- the number of bytes of the longest such run that a text begins with
abbrev pub run_length : Run → List ℕ → ℕ
run_length run [] = 0
run_length run (b ∷ text) = if is_in run b then suc (run_length run text) else 0

-- the text behind it
abbrev pub drop_run : Run → List ℕ → List ℕ
drop_run run text = drop (run_length run text) text

-- The place of the quote that closes a string, on the same line; `at` is the place of the text's first byte. A `\` takes the byte
-- behind it along.
abbrev pub closing_quote : (at : ℕ) → (escaped : Bool) → List ℕ → Option ℕ
closing_quote at escaped [] = None
closing_quote at escaped (b ∷ text) =
    if b == 10 then None
    else (if (b == 34) && not escaped then Some at
    else closing_quote (at + 1) ((b == 92) && not escaped) text)

-- The text behind the first `*/`; `star` says that a `*` stands before the text.
abbrev pub behind_comment : (star : Bool) → List ℕ → Option (List ℕ)
behind_comment star [] = None
behind_comment star (b ∷ text) = if star && (b == 47) then Some text else behind_comment (b == 42) text
