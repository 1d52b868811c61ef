-- Numbers: the digits read one after another are the number that a word spells.
use Rattle.std.proofs.Common.{◌≡◌, ℕ, ◌+◌, ◌*◌, ◌^◌, ◌<◌, ◌≤◌, Bool, true, false, cond, leb, ◌&&◌, List, [], ◌∷◌, drop, Option, Some, None, refl, sym, inl, inr, arith}
use Rattle.std.proofs.Math.Nat.{mul-le-mul_left}
use Rattle.std.specs.Char.{digit_value, is_digit}
use Rattle.std.specs.List.{list_all}
use Rattle.std.specs.Str.Parse.{digits_value_after}
use Rattle.std.proofs.lemmas.Bool.{cases_Bool, cases_lt, lt-ltb, le-ltb, lt-leb}
use Rattle.line_words.specs.Values.{digit_after, is_hexadecimal, is_number, is_numeral, number_in}
use Rattle.line_words.specs.Inside.Scanning.{decimal_in, digits_after, numeral_of, spelled_of}

abbrev pub at_most : ℕ → Option ℕ → Option ℕ
at_most limit None = None
at_most limit (Some n) = cond (leb n limit) (Some n) None

digits_value_after-ge : (radix n : ℕ) (ds : List ℕ) → 1 ≤ radix → n ≤ digits_value_after radix n ds
digits_value_after-ge radix n [] r = omega arith
digits_value_after-ge radix n (b ∷ ds) r =
    let grows : n ≤ n * radix = grind (arith, mul-le-mul_left n r) in
    let more = digits_value_after-ge radix (n * radix + digit_value b) ds r in
    omega (arith, grows, more)

cond_and_false : {A : Type 0} (x y : Bool) (a b : A) → y ≡ false → cond (x && y) a b ≡ b
cond_and_false true y a b e = rw e refl
cond_and_false false y a b e = refl

digits_after-at_most : (radix limit n : ℕ) (ds : List ℕ) → 1 ≤ radix → limit < 2 ^ 64 → n < 2 ^ 64
    → at_most limit (digits_after radix n ds) ≡ cond (list_all (λ b. is_digit b radix) ds && leb (digits_value_after radix n ds) limit) (Some (digits_value_after radix n ds)) None
unfolding digit_after
digits_after-at_most radix limit n [] r l h = refl
digits_after-at_most radix limit n (b ∷ ds) r l h =
    let m = n * radix + digit_value b in
    elim (cases_Bool (is_digit b radix)) [
      | inl good ↦ elim (cases_lt m (2 ^ 64)) [
        | inl small ↦ rw (good, lt-ltb m (2 ^ 64) small) (digits_after-at_most radix limit m ds r l small)
        | inr large ↦
            let over : leb (digits_value_after radix m ds) limit ≡ false = lt-leb _ _ (omega (arith, digits_value_after-ge radix m ds r)) in
            rw (good, le-ltb m (2 ^ 64) large) (sym (cond_and_false (list_all (λ x. is_digit x radix) ds) _ _ _ over))
      ]
      | inr bad ↦ rw bad refl
    ]

pub numeral_at_most : (radix limit : ℕ) (ds : List ℕ) → 1 ≤ radix → limit < 2 ^ 64 → at_most limit (numeral_of radix ds) ≡ cond (is_numeral radix limit ds) (Some (digits_value_after radix 0 ds)) None
numeral_at_most radix limit [] r l = refl
numeral_at_most radix limit (b ∷ ds) r l = digits_after-at_most radix limit 0 (b ∷ ds) r l (omega arith)

-- what a word spells, as far as its place allows
pub of_spelled : (limit : ℕ) (word : List ℕ) → limit < 2 ^ 64 → number_in limit word ≡ at_most limit (spelled_of word)
unfolding number_in is_number spelled_of
of_spelled limit word l =
    elim (cases_Bool (is_hexadecimal word)) [
      | inl hex ↦ rw hex (sym (numeral_at_most 16 limit (drop 2 word) (omega arith) l))
      | inr other ↦ rw other (sym (numeral_at_most 10 limit word (omega arith) l))
    ]

-- what decimal digits spell, as far as its place allows
pub of_numeral : (limit : ℕ) (digits : List ℕ) → limit < 2 ^ 64 → decimal_in limit digits ≡ at_most limit (numeral_of 10 digits)
unfolding decimal_in
of_numeral limit digits l = sym (numeral_at_most 10 limit digits (omega arith) l)
