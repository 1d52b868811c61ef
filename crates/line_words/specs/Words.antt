-- Bytes as lines of words, and words as numbers (profile).
use Rattle.std.specs.Prelude.{◌≡◌, ◌≢◌, ◌⊎◌, ℕ, ℤ, pos, neg_ℤ, ◌-◌, ◌^◌, ◌≤◌, Bool, ◌&&◌, ◌||◌, IsTrue, IsFalse, nat_le, ◌==◌, List, [], ◌∷◌, ◌++◌, codes}
use Rattle.std.specs.List.{AllByRecursion, AllZip}
use Rattle.std.specs.Str.Parse.{IsNumeral, digits_value}

-- a blank or a tab
abbrev pub is_blank : ℕ → Bool
is_blank b = (b == 32) || (b == 9)

-- whether a line can have this byte: printable ASCII, or a tab
abbrev pub is_allowed : ℕ → Bool
is_allowed b = (nat_le 32 b && nat_le b 126) || (b == 9)

-- `#`, which begins a comment
abbrev pub is_hash : ℕ → Bool
is_hash b = b == 35

-- blanks and tabs, or nothing
abbrev pub IsGap : List ℕ → Type 0
IsGap gap = AllByRecursion (λ b. IsTrue (is_blank b)) gap

-- at least one byte, and no blank among them
abbrev pub IsWord : List ℕ → Type 0
IsWord word = (word ≢ []) × AllByRecursion (λ b. IsFalse (is_blank b)) word

-- a text after a word: empty, or with a blank first
abbrev pub IsApart : List ℕ → Type 0
IsApart [] = Unit {0}
IsApart (b ∷ text) = IsTrue (is_blank b)

-- a text of these words, with any blanks before and after them, and at least one blank between two
abbrev pub Spaces : List ℕ → List (List ℕ) → Type 0
Spaces text [] = IsGap text
Spaces text (word ∷ words) =
    (gap : List ℕ) × (rest : List ℕ) × IsGap gap × IsWord word × (text ≡ gap ++ (word ++ rest)) × IsApart rest
    × Spaces rest words

-- a comment: empty, or a text that begins with `#`
abbrev pub IsComment : List ℕ → Type 0
IsComment [] = Unit {0}
IsComment (b ∷ text) = IsTrue (is_hash b)

-- A line's text: words with any spacing, and then a comment.
pub record IsLine (text : List ℕ) (words : List (List ℕ)) : Type 0 where
  pub body : List ℕ
  pub comment : List ℕ
  pub parts : text ≡ body ++ comment
  pub allowed : AllByRecursion (λ b. IsTrue (is_allowed b)) text
  pub no_hash : AllByRecursion (λ b. IsFalse (is_hash b)) body
  pub is_comment : IsComment comment
  pub spaces : Spaces body words

-- ---- numbers

-- A word that spells n: decimal digits, or `0x` and hexadecimal digits of either case.
abbrev pub Spells : List ℕ → ℕ → Type 0
Spells word n =
    (IsNumeral 10 word × (n ≡ digits_value 10 word))
    ⊎ ((digits : List ℕ) × (word ≡ codes "0x" ++ digits) × IsNumeral 16 digits × (n ≡ digits_value 16 digits))

-- a word that spells n, which is at most the limit
abbrev pub IsNumber : (limit : ℕ) → List ℕ → ℕ → Type 0
IsNumber limit word n = (n ≤ limit) × Spells word n

-- each word spells the number in its place
abbrev pub AreNumbers : (limit : ℕ) → List (List ℕ) → List ℕ → Type 0
AreNumbers limit words ns = AllZip (IsNumber limit) words ns

-- ---- signed numbers

-- the largest magnitude of a signed number: of a negative one (`last_below`), and of any other (`last_above`)
abbrev pub last_below : ℕ
last_below = 2 ^ 63

abbrev pub last_above : ℕ
last_above = 2 ^ 63 - 1

-- A word that spells a signed number: decimal digits, or a `-` and decimal digits.
abbrev pub IsSigned : List ℕ → ℤ → Type 0
IsSigned word e =
    (IsNumeral 10 word × (digits_value 10 word ≤ last_above) × (e ≡ pos (digits_value 10 word)))
    ⊎ ((digits : List ℕ) × (word ≡ codes "-" ++ digits) × IsNumeral 10 digits × (digits_value 10 digits ≤ last_below)
    × (e ≡ neg_ℤ (pos (digits_value 10 digits))))
