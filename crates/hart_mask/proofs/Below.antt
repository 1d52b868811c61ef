-- What a test keeps of the numbers below a limit.
use Rattle.std.proofs.Common.{◌≡◌, ◌≢◌, ℕ, ◌+◌, ◌<◌, ◌≤◌, suc, zero, Bool, true, false, ◌∷◌, refl, sym, ap, ◌∙◌, arith, inl, inr, eqb, zero-add}
use Rattle.std.specs.Prelude.{◌&&◌}
use Rattle.std.specs.List.{filter, list_any, range_with_len}
use Rattle.std.proofs.lemmas.Bool.Decides.{eqb_tells}
use Rattle.std.proofs.lemmas.List.Elements.{All-filter}
use Rattle.std.proofs.lemmas.List.Folds.{list_any_none}
use Rattle.std.proofs.lemmas.List.FromFn.{get_or-range_with_len, length-range_with_len}
use Rattle.std.proofs.lemmas.Map.Views.{any-filter_same}

pub eqb-same : (a : ℕ) → eqb a a ≡ true
eqb-same a = elim (eqb_tells a a) [
  | inl same ↦ same.0
  | inr other ↦ absurd (other.1 refl)
]

pub eqb-other : (a b : ℕ) → a ≢ b → eqb a b ≡ false
eqb-other a b differ = elim (eqb_tells a b) [
  | inl same ↦ absurd (differ same.1)
  | inr other ↦ other.0
]

-- two tests that agree on the numbers keep the same ones
pub filter-agree : (p q : ℕ → Bool) (a n : ℕ) → ((i : ℕ) → a ≤ i → i < a + n → p i ≡ q i)
    → filter p (range_with_len a n) ≡ filter q (range_with_len a n)
filter-agree p q a zero agree = refl
filter-agree p q a (suc n) agree =
    rw (agree a (omega arith) (omega arith), filter-agree p q (a + 1) n (λ i low high. agree i (omega arith) (omega arith))) refl

-- a number within the limit is among the numbers
any-range : (a n i : ℕ) → a ≤ i → i < a + n → list_any (λ j. eqb j i) (range_with_len a n) ≡ true
any-range a zero i low high = absurd (omega arith)
any-range a (suc n) i low high = elim (eqb_tells a i) [
  | inl same ↦ rw same.0 refl
  | inr other ↦ let apart = other.1 in let above : a + 1 ≤ i = omega arith in rw other.0 (any-range (a + 1) n i above (omega arith))
]

-- it is kept just where its test gives true
pub any-filter : (p : ℕ → Bool) (n i : ℕ) → i < n → list_any (λ j. eqb j i) (filter p (range_with_len 0 n)) ≡ p i
any-filter p n i below =
    any-filter_same (λ j. eqb j i) p (p i) (λ j is. elim (eqb_tells j i) [
      | inl same ↦ ap p same.1
      | inr other ↦ cc
    ]) (range_with_len 0 n)
    ∙ rw (any-range 0 n i (omega arith) (omega arith)) (and_true (p i))
  where
    and_true : (b : Bool) → (b && true) ≡ b
    and_true true = refl
    and_true false = refl

-- no number from the limit on is kept
pub any-filter_above : (p : ℕ → Bool) (n i : ℕ) → n ≤ i → list_any (λ j. eqb j i) (filter p (range_with_len 0 n)) ≡ false
any-filter_above p n i above = list_any_none (λ j. eqb j i) (filter p (range_with_len 0 n))
    (All-filter p (λ j. eqb j i ≡ false) (range_with_len 0 n) (λ k d inside.
    let long = length-range_with_len 0 n in
    let low : k < n = omega arith in
    let other : k ≢ i = omega arith in
    ap (λ j. eqb j i) (get_or-range_with_len 0 n k d low ∙ zero-add k) ∙ eqb-other k i other))

-- the lowest number that is kept comes first, and the rest is what the same test keeps without it
pub filter-lowest : (p q : ℕ → Bool) (a n low : ℕ) → a ≤ low → low < a + n → p low ≡ true
    → ((i : ℕ) → a ≤ i → i < low → p i ≡ false) → q low ≡ false → ((i : ℕ) → i < a + n → i ≢ low → q i ≡ p i)
    → filter p (range_with_len a n) ≡ low ∷ filter q (range_with_len a n)
filter-lowest p q a zero low above below is none out same = absurd (omega arith)
filter-lowest p q a (suc n) low above below is none out same = elim (eqb_tells a low) [
  | inl here ↦
      let p_is = ap p here.1 ∙ is in
      let q_is = ap q here.1 ∙ out in
      rw (p_is, q_is) (rw (here.1, filter-agree p q (low + 1) n (λ i from to. sym (same i (omega arith) (let later : low < i = omega arith in λ e. absurd (omega arith))))) refl)
  | inr later ↦
      let apart = later.1 in
      let p_is = none a (omega arith) (omega arith) in
      let q_is = same a (omega arith) apart ∙ p_is in
      rw (p_is, q_is) (filter-lowest p q (a + 1) n low (omega arith) (omega arith) is (λ i from to. none i (omega arith) to) out (λ i to. same i (omega arith)))
]
