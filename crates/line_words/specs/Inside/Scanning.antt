-- A text, byte by byte: the length of a word, and the number that digits spell.
use Rattle.std.specs.Prelude.{ℕ, suc, Bool, false, ◌||◌, if◌then◌else◌, List, [], ◌∷◌, drop, Option, Some, None}
use Rattle.std.specs.Str.Parse.{digits_value}
use Rattle.line_words.specs.Words.{is_blank, is_hash}
use Rattle.line_words.specs.Values.{digit_after, is_hexadecimal, is_numeral}

abbrev pub begins_blank : List ℕ → Bool
begins_blank [] = false
begins_blank (b ∷ text) = is_blank b

abbrev pub is_word_end : ℕ → Bool
is_word_end b = is_blank b || is_hash b

-- the number of bytes before the first that ends a word
abbrev pub word_length : List ℕ → ℕ
word_length [] = 0
word_length (b ∷ text) = if is_word_end b then 0 else suc (word_length text)

abbrev pub and_digits : (ℕ → Option ℕ) → Option ℕ → Option ℕ
and_digits others None = None
and_digits others (Some n) = others n

abbrev pub digits_after : (radix n : ℕ) → List ℕ → Option ℕ
digits_after radix n [] = Some n
digits_after radix n (b ∷ digits) = and_digits (λ m. digits_after radix m digits) (digit_after radix n b)

-- the number that one digit or more spell, if it is below 2^64
abbrev pub numeral_of : (radix : ℕ) → List ℕ → Option ℕ
numeral_of radix [] = None
numeral_of radix (b ∷ digits) = digits_after radix 0 (b ∷ digits)

unfoldable pub spelled_of : List ℕ → Option ℕ
spelled_of word = if is_hexadecimal word then numeral_of 16 (drop 2 word) else numeral_of 10 word

-- the number that decimal digits spell, if it is at most the limit
unfoldable pub decimal_in : (limit : ℕ) → List ℕ → Option ℕ
decimal_in limit digits = if is_numeral 10 limit digits then Some (digits_value 10 digits) else None
