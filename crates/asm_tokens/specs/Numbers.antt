-- Numbers, as words spell them (GNU as, Integers).
use Rattle.std.specs.Prelude.{ℕ, Bool, if◌then◌else◌, List, [], ◌∷◌, codes, drop, length, take, Option, Some, None, option_and_then}
use Rattle.std.specs.Str.{bytes_eq}
use Rattle.line_words.specs.Values.{digit_after}

-- the number that goes on with these digits
abbrev pub digits_in : (radix n : ℕ) → List ℕ → Option ℕ
digits_in radix n [] = Some n
digits_in radix n (b ∷ digits) = option_and_then (λ m. digits_in radix m digits) (digit_after radix n b)

-- the number that one digit or more spell, if each is a digit of this radix and the number is below 2^64
abbrev pub numeral_in : (radix : ℕ) → List ℕ → Option ℕ
numeral_in radix [] = None
numeral_in radix (b ∷ digits) = digits_in radix 0 (b ∷ digits)

-- whether a word begins with these bytes
abbrev pub begins_with : (front word : List ℕ) → Bool
begins_with front word = bytes_eq (take (length front) word) front

-- The number that a word spells: `0x` and hexadecimal digits, `0b` and binary ones, a `0` and octal ones, or decimal ones.
unfoldable pub asm_number_in : List ℕ → Option ℕ
asm_number_in word =
    if begins_with (codes "0x") word then numeral_in 16 (drop 2 word)
    else (if begins_with (codes "0b") word then numeral_in 2 (drop 2 word)
    else (if begins_with (codes "0") word then numeral_in 8 word
    else numeral_in 10 word))
