-- The hexadecimal digits of a number, from the last to the first, and how many there are.
use Rattle.std.proofs.Common.{◌≡◌, ℕ, zero, suc, ◌+◌, ◌*◌, ◌/◌, ◌%◌, ◌^◌, ◌<◌, ◌≤◌, false, cond, List, [], ◌∷◌, ◌++◌, length, refl, sym, ap, ◌∙◌, arith, inl, inr, append_assoc, length-append}
use Rattle.std.specs.Fmt.{digits, digit_glyph, digits_onto}
use Rattle.std.proofs.lemmas.Fmt.{hex_one_digit}
use Rattle.std.proofs.lemmas.Nat.{pow-add}
use Rattle.std.proofs.Math.Nat.{one-le-pow}
use Rattle.std.proofs.lemmas.Bool.{cases_lt}
use borrow.Author.Tests.{eq-eqb, ne_eqb}

-- at most k digits of n, and then those so far
abbrev onto : ℕ → ℕ → List ℕ → List ℕ
onto k n so_far = digits_onto k 16 false n so_far

abbrev last : ℕ → ℕ
last n = digit_glyph false (n % 16)

onto_small : (k n : ℕ) (so_far : List ℕ) → n < 16 → onto (suc k) n so_far ≡ last n ∷ so_far
onto_small k n so_far small = ap (λ t. cond t (last n ∷ so_far) (onto k (n / 16) (last n ∷ so_far))) (eq-eqb (n / 16) 0 (omega arith))

onto_large : (k n : ℕ) (so_far : List ℕ) → 16 ≤ n → onto (suc k) n so_far ≡ onto k (n / 16) (last n ∷ so_far)
onto_large k n so_far large = ap (λ t. cond t (last n ∷ so_far) (onto k (n / 16) (last n ∷ so_far))) (ne_eqb (n / 16) 0 (λ e. omega arith))

onto_all : (n : ℕ) → onto 64 n [] ≡ digits 16 false n
unfolding digits
onto_all n = refl

onto-append : (k n : ℕ) (so_far : List ℕ) → onto k n so_far ≡ onto k n [] ++ so_far
onto-append zero n so_far = refl
onto-append (suc k) n so_far = elim (cases_lt n 16) [
  | inl small ↦ onto_small k n so_far small ∙ ap (λ l. l ++ so_far) (sym (onto_small k n [] small))
  | inr large ↦
      onto_large k n so_far large ∙ onto-append k (n / 16) (last n ∷ so_far)
      ∙ sym (append_assoc (onto k (n / 16) []) (last n ∷ []) so_far)
      ∙ ap (λ l. l ++ so_far) (sym (onto_large k n [] large ∙ onto-append k (n / 16) (last n ∷ [])))
]

-- one more digit than the number has is none more
onto_enough : (k n : ℕ) (so_far : List ℕ) → n < 16 ^ suc k → onto (suc k) n so_far ≡ onto (suc (suc k)) n so_far
onto_enough zero n so_far fits = onto_small zero n so_far (omega arith) ∙ sym (onto_small 1 n so_far (omega arith))
onto_enough (suc k) n so_far fits = elim (cases_lt n 16) [
  | inl small ↦ onto_small (suc k) n so_far small ∙ sym (onto_small (suc (suc k)) n so_far small)
  | inr large ↦
      onto_large (suc k) n so_far large ∙ onto_enough k (n / 16) (last n ∷ so_far) (omega arith)
      ∙ sym (onto_large (suc (suc k)) n so_far large)
]

pub hex-step : (n : ℕ) → 16 ≤ n → n < 2 ^ 64 → digits 16 false n ≡ digits 16 false (n / 16) ++ (digit_glyph false (n % 16) ∷ [])
hex-step n large fits =
    sym (onto_all n) ∙ onto_large 63 n [] large ∙ onto_enough 62 (n / 16) (last n ∷ []) (omega arith)
    ∙ onto-append 64 (n / 16) (last n ∷ []) ∙ ap (λ l. l ++ (last n ∷ [])) (onto_all (n / 16))

pub length-hex-step : (n : ℕ) → 16 ≤ n → n < 2 ^ 64 → length (digits 16 false n) ≡ length (digits 16 false (n / 16)) + 1
length-hex-step n large fits = ap length (hex-step n large fits) ∙ length-append _ _

pub hex_small : (n : ℕ) → n < 16 → digits 16 false n ≡ digit_glyph false n ∷ []
hex_small n small = hex_one_digit false n small

pub hex_two : (n : ℕ) → 16 ≤ n → n < 256 → digits 16 false n ≡ digit_glyph false (n / 16) ∷ digit_glyph false (n % 16) ∷ []
hex_two n large small = rw (hex-step n large (omega arith), hex_small (n / 16) (omega arith)) refl

pub length-hex-one : (n : ℕ) → n < 16 → length (digits 16 false n) ≡ 1
length-hex-one n small = ap length (hex_one_digit false n small)

pub length-hex : (k n : ℕ) → 16 ^ k ≤ n → n < 16 ^ suc k → n < 2 ^ 64 → length (digits 16 false n) ≡ suc k
length-hex zero n low high fits = length-hex-one n (omega arith)
length-hex (suc k) n low high fits =
    elim (cases_lt n 16) [
      | inl small ↦ absurd (omega (arith, one-le-pow k 16 (omega arith)))
      | inr large ↦ omega (arith, length-hex-step n large fits, length-hex k (n / 16) (omega arith) (omega arith) (omega arith))
    ]

pub pow-four : (q : ℕ) → 2 ^ (4 * q) ≡ 16 ^ q
pow-four zero = refl
pow-four (suc q) = let e : 4 * suc q ≡ 4 * q + 4 = omega arith in rw (e, pow-add 2 (4 * q) 4, pow-four q) (omega arith)

-- each four binary digits, from the last, are one digit
pub length-hex-log : (n r : ℕ) → 2 ^ r ≤ n → n < 2 * 2 ^ r → n < 2 ^ 64 → length (digits 16 false n) ≡ r / 4 + 1
length-hex-log n r low high fits =
    let q : ℕ = r / 4 in
    let e : r ≡ 4 * q + r % 4 = omega arith in
    let h : 2 ^ r ≡ 16 ^ q * 2 ^ (r % 4) = ap (λ k. 2 ^ k) e ∙ pow-add 2 (4 * q) (r % 4) ∙ ap (λ p. p * 2 ^ (r % 4)) (pow-four q) in
    let b = within q (r % 4) (omega arith) in
    length-hex q n (omega (arith, h, b)) (omega (arith, h, b)) fits ∙ omega arith
  where
    within : (q s : ℕ) → s < 4 → (16 ^ q ≤ 16 ^ q * 2 ^ s) × (2 * (16 ^ q * 2 ^ s) ≤ 16 ^ suc q)
    within q zero h = (omega arith, omega arith)
    within q (suc zero) h = (omega arith, omega arith)
    within q (suc (suc zero)) h = (omega arith, omega arith)
    within q (suc (suc (suc zero))) h = (omega arith, omega arith)
    within q (suc (suc (suc (suc s)))) h = absurd (omega arith)
