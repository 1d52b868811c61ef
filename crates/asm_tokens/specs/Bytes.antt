-- Bytes of assembly text, by what they begin (GNU as, Whitespace, Comments, Symbols, Statements; on RISC-V `#` begins a comment).
use Rattle.std.specs.Prelude.{ℕ, Bool, not, ◌||◌, ◌==◌, if◌then◌else◌, Option, Some, None}
use Rattle.std.specs.Int.{is_in_range}
use Rattle.asm_tokens.specs.declared.bytes.ByteClass.{ByteClass}
use Rattle.asm_tokens.specs.declared.bytes.ByteClass.TheVariants.{Blank, Letter, End, Hash, Quote, Slash, Mark, Other}
use Rattle.asm_tokens.specs.declared.marks.Mark as marks
use Rattle.asm_tokens.specs.Marks.{mark_of_byte}

-- a blank, a tab or a carriage return
abbrev pub is_asm_blank : ℕ → Bool
is_asm_blank b = (b == 32) || (b == 9) || (b == 13)

-- a byte of a word: a digit, a letter, `_`, `.` or `$`
abbrev pub is_letter : ℕ → Bool
is_letter b =
    is_in_range 48 57 b || is_in_range 65 90 b || is_in_range 97 122 b || (b == 95) || (b == 46) || (b == 36)

-- any byte but a line feed
abbrev pub is_inline : ℕ → Bool
is_inline b = not (b == 10)

abbrev pub by_mark : Option marks.Mark → ByteClass
by_mark None = Other
by_mark (Some mark) = Mark mark

-- What a byte begins: blanks, a word, the end of a statement (a line feed or `;`), a comment (`#`), a string (`"`), a mark, or
-- nothing.
abbrev pub class_of : ℕ → ByteClass
class_of b =
    if is_asm_blank b then Blank
    else (if is_letter b then Letter
    else (if (b == 10) || (b == 59) then End
    else (if b == 35 then Hash
    else (if b == 34 then Quote
    else (if b == 47 then Slash
    else by_mark (mark_of_byte b))))))
