-- Worked tokens, names of registers and numbers, computed from the definitions.
use Rattle.std.proofs.Common.{◌≡◌, [], ◌∷◌, codes, Some, None, true, false, refl}
use Rattle.asm_tokens.specs.declared.marks.Mark.TheVariants.{Comma, Slash}
use Rattle.asm_tokens.specs.declared.tokens.BadText.TheVariants.{BadByte, OpenComment, OpenString}
use Rattle.line_words.specs.Values.{digit_after}
use Rattle.asm_tokens.specs.Numbers.{asm_number_in}
use Rattle.asm_tokens.specs.Registers.{register_in}
use Rattle.asm_tokens.specs.Terms.{is_local_label}
use Rattle.asm_tokens.specs.Tokens.{first}
use Rattle.asm_tokens.specs.Tokens.Lexeme.{End, Mark, Text, Word}
use Rattle.asm_tokens.specs.Tokens.Reading.{Begins, Faulty, Gap, Over}

-- ---- tokens

word : first (codes "amoadd.d.aq t0, (a0)") ≡ Begins (Word (codes "amoadd.d.aq")) (codes " t0, (a0)")
word = refl

blanks : first (codes "  ld") ≡ Gap (codes "ld")
blanks = refl

line_comment : first (codes "# a ; b") ≡ Gap []
line_comment = refl

block_comment : first (codes "/**/ld") ≡ Gap (codes "ld")
block_comment = refl

slash_star_slash : first (codes "/*/") ≡ Faulty OpenComment
slash_star_slash = refl

division : first (codes "/2") ≡ Begins (Mark Slash) (codes "2")
division = refl

comma : first (codes ", 8(sp)") ≡ Begins (Mark Comma) (codes " 8(sp)")
comma = refl

semicolon : first (codes "; nop") ≡ Begins End (codes " nop")
semicolon = refl

line_feed : first (10 ∷ codes "nop") ≡ Begins End (codes "nop")
line_feed = refl

-- a `"` behind a `\` doesn't close a string, but one behind two does
escaped_quote : first (34 ∷ 97 ∷ 92 ∷ 34 ∷ 98 ∷ 34 ∷ 44 ∷ []) ≡ Begins (Text (97 ∷ 92 ∷ 34 ∷ 98 ∷ [])) (44 ∷ [])
escaped_quote = refl

escaped_backslash : first (34 ∷ 92 ∷ 92 ∷ 34 ∷ 44 ∷ []) ≡ Begins (Text (92 ∷ 92 ∷ [])) (44 ∷ [])
escaped_backslash = refl

open_string : first (34 ∷ 97 ∷ 10 ∷ 34 ∷ []) ≡ Faulty OpenString
open_string = refl

character : first (codes "'a'") ≡ Faulty BadByte
character = refl

nothing : first [] ≡ Over
nothing = refl

-- ---- registers

zero_register : register_in (codes "zero") ≡ Some 0
zero_register = refl

stack_pointer : register_in (codes "sp") ≡ Some 2
stack_pointer = refl

frame_pointer : register_in (codes "fp") ≡ Some 8
frame_pointer = refl

first_saved : register_in (codes "s1") ≡ Some 9
first_saved = refl

second_saved : register_in (codes "s2") ≡ Some 18
second_saved = refl

last_saved : register_in (codes "s11") ≡ Some 27
last_saved = refl

no_saved : register_in (codes "s12") ≡ None
no_saved = refl

last_argument : register_in (codes "a7") ≡ Some 17
last_argument = refl

temporary : register_in (codes "t2") ≡ Some 7
temporary = refl

later_temporary : register_in (codes "t3") ≡ Some 28
later_temporary = refl

last_number : register_in (codes "x31") ≡ Some 31
last_number = refl

no_number : register_in (codes "x32") ≡ None
no_number = refl

leading_zero : register_in (codes "x01") ≡ None
leading_zero = refl

-- ---- numbers

decimal : asm_number_in (codes "42") ≡ Some 42
unfolding asm_number_in digit_after
decimal = refl

octal : asm_number_in (codes "042") ≡ Some 34
unfolding asm_number_in digit_after
octal = refl

no_octal : asm_number_in (codes "09") ≡ None
unfolding asm_number_in digit_after
no_octal = refl

hexadecimal : asm_number_in (codes "0x2A") ≡ Some 42
unfolding asm_number_in digit_after
hexadecimal = refl

binary : asm_number_in (codes "0b101010") ≡ Some 42
unfolding asm_number_in digit_after
binary = refl

too_large : asm_number_in (codes "0x10000000000000000") ≡ None
unfolding asm_number_in digit_after
too_large = refl

backward : is_local_label (codes "12b") ≡ true
backward = refl

no_direction : is_local_label (codes "12") ≡ false
no_direction = refl
