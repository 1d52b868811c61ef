-- A word is a number by the tests where it spells one, and no other.
use Rattle.std.proofs.Common.{◌≡◌, ℕ, ◌<◌, ◌≤◌, true, false, eqb, leb, ◌&&◌, List, [], ◌∷◌, ◌++◌, length, take, drop, codes, ℤ, pos, Some, subst, refl, sym, ap, ◌∙◌, inl, inr, arith}
use Rattle.std.specs.Char.{digit_value, is_digit}
use Rattle.std.specs.List.{list_all}
use Rattle.std.specs.Option.{unwrap_or}
use Rattle.std.specs.Str.Parse.{AllDigits, IsNumeral, digits_value}
use Rattle.std.proofs.lemmas.Bool.{cases_Bool, and_parts, and_from, and_right, ltb-true, lt-ltb, leb-true, le-leb, eqb-true}
use Rattle.std.proofs.lemmas.Slice.Eq.{bytes_eq-Decides}
use Rattle.std.proofs.lemmas.List.{take-append-drop}
use Rattle.line_words.specs.Words.{IsNumber, IsSigned, Spells, last_above, last_below}
use Rattle.line_words.specs.Values.{is_below, is_filled, is_hexadecimal, is_number, is_numeral, is_signed, number_in, signed_in, word_value}

-- ---- digits

digits_tested : (radix : ℕ) (digits : List ℕ) → list_all (λ b. is_digit b radix) digits ≡ true → AllDigits radix digits
digits_tested radix [] all = tt
digits_tested radix (b ∷ digits) all =
    let both = and_parts (is_digit b radix) (list_all (λ x. is_digit x radix) digits) all in
    (ltb-true (digit_value b) radix both.0, digits_tested radix digits both.1)

digits_pass : (radix : ℕ) (digits : List ℕ) → AllDigits radix digits → list_all (λ b. is_digit b radix) digits ≡ true
digits_pass radix [] all = refl
digits_pass radix (b ∷ digits) all =
    and_from (is_digit b radix) (list_all (λ x. is_digit x radix) digits) (lt-ltb (digit_value b) radix all.0) (digits_pass radix digits all.1)

filled_length : (digits : List ℕ) → is_filled digits ≡ true → 0 < length digits
filled_length [] filled = absurd cc
filled_length (b ∷ digits) filled = omega arith

length_filled : (digits : List ℕ) → 0 < length digits → is_filled digits ≡ true
length_filled [] some = absurd (omega arith)
length_filled (b ∷ digits) some = refl

pub numeral_tested : (radix limit : ℕ) (digits : List ℕ) → is_numeral radix limit digits ≡ true → IsNumeral radix digits × (digits_value radix digits ≤ limit)
numeral_tested radix limit digits good =
    let all = list_all (λ b. is_digit b radix) digits in
    let parts = and_parts (is_filled digits && all) (leb (digits_value radix digits) limit) good in
    let front = and_parts (is_filled digits) all parts.0 in
    ((filled_length digits front.0, digits_tested radix digits front.1), leb-true (digits_value radix digits) limit parts.1)

numeral_passes : (radix limit : ℕ) (digits : List ℕ) → IsNumeral radix digits → digits_value radix digits ≤ limit → is_numeral radix limit digits ≡ true
numeral_passes radix limit digits numeral small =
    let all = list_all (λ b. is_digit b radix) digits in
    and_from (is_filled digits && all) (leb (digits_value radix digits) limit)
    (and_from (is_filled digits) all (length_filled digits numeral.0) (digits_pass radix digits numeral.1))
    (le-leb (digits_value radix digits) limit small)

no_x : (b : ℕ) → digit_value b < 10 → eqb b 120 ≡ false
no_x b digit = elim (cases_Bool (eqb b 120)) [
  | inl same ↦ let P : ℕ → Type 0 = λ x. digit_value x < 10 in absurd (omega (arith, subst P (eqb-true b 120 same) digit))
  | inr other ↦ other
]

-- a decimal numeral doesn't begin with `0x`
decimal_is_plain : (word : List ℕ) → AllDigits 10 word → is_hexadecimal word ≡ false
decimal_is_plain [] all = refl
decimal_is_plain (a ∷ []) all = and_right (eqb a 48) false refl
decimal_is_plain (a ∷ b ∷ word) all = and_right (eqb a 48) (eqb b 120 && true) (rw (no_x b all.1.0) refl)

hexadecimal_parts : (word : List ℕ) → is_hexadecimal word ≡ true → word ≡ codes "0x" ++ drop 2 word
hexadecimal_parts word hex =
    let front : take 2 word ≡ codes "0x" = (bytes_eq-Decides (take 2 word) (codes "0x")).0 hex in
    sym (take-append-drop 2 word) ∙ ap (λ (w : List ℕ). w ++ drop 2 word) front

-- ---- one number

number_value : (limit : ℕ) (word : List ℕ) → is_number limit word ≡ true → unwrap_or (number_in limit word) 0 ≡ word_value word
unfolding number_in
number_value limit word good = rw good refl

pub value_spelled : (limit : ℕ) (word : List ℕ) → is_number limit word ≡ true → IsNumber limit word (word_value word)
unfolding is_number
value_spelled limit word good = elim (cases_Bool (is_hexadecimal word)) [
  | inl hex ↦
      let t = numeral_tested 16 limit (drop 2 word) (rw hex at good) in
      rw hex (t.1, inr (drop 2 word, hexadecimal_parts word hex, t.0, refl))
  | inr plain ↦ let t = numeral_tested 10 limit word (rw plain at good) in rw plain (t.1, inl (t.0, refl))
]

pub spelled_value : (limit : ℕ) (word : List ℕ) (n : ℕ) → n ≤ limit → Spells word n → (is_number limit word ≡ true) × (word_value word ≡ n)
unfolding is_number
spelled_value limit word n small (inl decimal) =
    let plain = decimal_is_plain word decimal.0.1 in
    rw plain (numeral_passes 10 limit word decimal.0 (omega (arith, decimal.1)), sym decimal.1)
spelled_value limit word n small (inr hex) =
    rw hex.1 (numeral_passes 16 limit hex.0 hex.2 (omega (arith, hex.3)), sym hex.3)

pub number_spelled : (limit : ℕ) (word : List ℕ) → is_number limit word ≡ true → IsNumber limit word (unwrap_or (number_in limit word) 0)
number_spelled limit word good = rw (number_value limit word good) (value_spelled limit word good)

pub spelled_number : (limit : ℕ) (word : List ℕ) (n : ℕ) → IsNumber limit word n → (is_number limit word ≡ true) × (unwrap_or (number_in limit word) 0 ≡ n)
spelled_number limit word n number =
    let value = spelled_value limit word n number.0 number.1 in
    (value.0, number_value limit word value.0 ∙ value.1)

pub number_is_some : (limit : ℕ) (word : List ℕ) (n : ℕ) → IsNumber limit word n → number_in limit word ≡ Some n
unfolding number_in
number_is_some limit word n number =
    let value = spelled_value limit word n number.0 number.1 in
    rw (value.0, value.1) refl

-- ---- signed numbers

no_dash : (b : ℕ) → digit_value b < 10 → eqb b 45 ≡ false
no_dash b digit = elim (cases_Bool (eqb b 45)) [
  | inl same ↦ let P : ℕ → Type 0 = λ x. digit_value x < 10 in absurd (omega (arith, subst P (eqb-true b 45 same) digit))
  | inr other ↦ other
]

digits_not_below : (word : List ℕ) → AllDigits 10 word → is_below word ≡ false
digits_not_below [] all = refl
digits_not_below (b ∷ word) all = rw (no_dash b all.0) refl

pub signed_spelled : (word : List ℕ) → is_signed word ≡ true → IsSigned word (unwrap_or (signed_in word) (pos 0))
unfolding signed_in
signed_spelled word good = elim (cases_Bool (is_below word)) [
  | inl below ↦
      let parts : word ≡ codes "-" ++ drop 1 word = sym (take-append-drop 1 word) ∙ ap (λ (w : List ℕ). w ++ drop 1 word) ((bytes_eq-Decides (take 1 word) (codes "-")).0 below) in
      let numeral = rw below at good in
      let t = numeral_tested 10 last_below (drop 1 word) numeral in
      rw (below, numeral) (inr (drop 1 word, parts, t.0, t.1, refl))
  | inr plain ↦
      let numeral = rw plain at good in
      let t = numeral_tested 10 last_above word numeral in
      rw (plain, numeral) (inl (t.0, t.1, refl))
]

pub spelled_signed : (word : List ℕ) (e : ℤ) → IsSigned word e → (is_signed word ≡ true) × (unwrap_or (signed_in word) (pos 0) ≡ e)
unfolding signed_in
spelled_signed word e (inl (numeral, small, made)) =
    let plain = digits_not_below word numeral.1 in
    let passes = numeral_passes 10 last_above word numeral small in
    rw (plain, passes) (refl, sym made)
spelled_signed word e (inr (digits, parts, numeral, small, made)) =
    let passes = numeral_passes 10 last_below digits numeral small in
    rw (parts, passes) (refl, sym made)
