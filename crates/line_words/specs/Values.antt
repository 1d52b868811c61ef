-- The words of a line, and the numbers that words spell, as functions (profile).
use Rattle.std.specs.Prelude.{ℕ, ℤ, pos, neg_ℤ, ◌+◌, ◌*◌, ◌^◌, Bool, true, false, ◌&&◌, nat_le, nat_lt, if◌then◌else◌, List, [], ◌∷◌, drop, take, codes, Option, Some, None}
use Rattle.std.specs.Char.{digit_value, is_digit}
use Rattle.std.specs.List.{filter, list_any, list_all, slice_split}
use Rattle.std.specs.Str.{bytes_eq}
use Rattle.std.specs.Str.Parse.{digits_value}
use Rattle.line_words.specs.Words.{is_blank, is_hash, last_above, last_below}

-- ---- words

-- a text up to its comment
abbrev pub before_comment : List ℕ → List ℕ
before_comment [] = []
before_comment (b ∷ text) = if is_hash b then [] else b ∷ before_comment text

-- whether a list has an element
abbrev pub is_filled : {A : Type 0} → List A → Bool
is_filled [] = false
is_filled (x ∷ xs) = true

-- the words of a text: what stands between blanks, up to the comment
unfoldable pub words_in : List ℕ → List (List ℕ)
words_in text = filter is_filled (slice_split is_blank (before_comment text))

-- whether a word is the arrow before a reply
abbrev pub is_arrow : List ℕ → Bool
is_arrow word = bytes_eq word (codes "->")

-- whether one of the words is an arrow
abbrev pub has_arrow : List (List ℕ) → Bool
has_arrow words = list_any is_arrow words

-- the words before the first arrow
abbrev pub before_arrow : List (List ℕ) → List (List ℕ)
before_arrow [] = []
before_arrow (word ∷ words) = if is_arrow word then [] else word ∷ before_arrow words

-- the words after the first arrow
abbrev pub after_arrow : List (List ℕ) → List (List ℕ)
after_arrow [] = []
after_arrow (word ∷ words) = if is_arrow word then words else after_arrow words

-- all words, or those before the first arrow
abbrev pub words_until : (until_arrow : Bool) → List (List ℕ) → List (List ℕ)
words_until until_arrow words = if until_arrow then before_arrow words else words

-- ---- numbers

-- whether a word is one digit or more, and their number is at most the limit
abbrev pub is_numeral : (radix limit : ℕ) → List ℕ → Bool
is_numeral radix limit digits =
    is_filled digits && list_all (λ b. is_digit b radix) digits && nat_le (digits_value radix digits) limit

-- whether a word begins with `0x`
abbrev pub is_hexadecimal : List ℕ → Bool
is_hexadecimal word = bytes_eq (take 2 word) (codes "0x")

-- whether a word spells a number that is at most the limit
unfoldable pub is_number : (limit : ℕ) → List ℕ → Bool
is_number limit word = if is_hexadecimal word then is_numeral 16 limit (drop 2 word) else is_numeral 10 limit word

-- the number that a word spells
abbrev pub word_value : List ℕ → ℕ
word_value word = if is_hexadecimal word then digits_value 16 (drop 2 word) else digits_value 10 word

-- the number that a word spells, if it is at most the limit
unfoldable pub number_in : (limit : ℕ) → List ℕ → Option ℕ
number_in limit word = if is_number limit word then Some (word_value word) else None

-- whether a word begins with a `-`
abbrev pub is_below : List ℕ → Bool
is_below word = bytes_eq (take 1 word) (codes "-")

-- whether a word spells a signed number
abbrev pub is_signed : List ℕ → Bool
is_signed word = if is_below word then is_numeral 10 last_below (drop 1 word) else is_numeral 10 last_above word

-- the signed number that a word spells
abbrev pub signed_value : List ℕ → ℤ
signed_value word = if is_below word then neg_ℤ (pos (digits_value 10 (drop 1 word))) else pos (digits_value 10 word)

-- the signed number that a word spells, if it spells one
unfoldable pub signed_in : List ℕ → Option ℤ
signed_in word = if is_signed word then Some (signed_value word) else None

-- the number with one more digit, if that is a digit and the number is below 2^64
unfoldable pub digit_after : (radix n digit : ℕ) → Option ℕ
digit_after radix n digit =
    if is_digit digit radix && nat_lt (n * radix + digit_value digit) (2 ^ 64) then Some
    (n * radix + digit_value digit) else None
