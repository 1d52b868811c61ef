-- How many ids a set has with one id less.
use Rattle.std.proofs.Common.{◌≡◌, ℕ, suc, zero, ◌+◌, ◌-◌, ◌<◌, ◌≤◌, Bool, true, false, List, ◌∷◌, length, refl, sym, ap, ◌∙◌, arith, inl, inr}
use Rattle.std.specs.Prelude.{◌==◌, ◌&&◌, not, if◌then◌else◌, filter}
use Rattle.std.specs.Int.{from_bool}
use Rattle.std.specs.List.{range_with_len}
use Rattle.std.proofs.lemmas.Bool.{ne_eqb}
use Rattle.std.proofs.lemmas.Bool.Decides.{eqb_tells}
use Rattle.hart_mask.specs.Ids.{IsIdSet, has, ids_where, without_id}
use Rattle.hart_mask.proofs.Sets.{ids_where-agree}
use Rattle.hart_mask.proofs.Below.{filter-agree}

-- what a test keeps of a range with one number less
fewer : (p : ℕ → Bool) (t a n : ℕ) → p t ≡ true → a ≤ t → t < a + n
    → length (filter (λ i. not (i == t) && p i) (range_with_len a n)) + 1 ≡ length (filter p (range_with_len a n))
fewer p t a zero is from below = absurd (omega arith)
fewer p t a (suc n) is from below = elim (eqb_tells a t) [
  | inl same ↦
      let at = same.1 in
      let rest : filter (λ i. not (i == t) && p i) (range_with_len (a + 1) n) ≡ filter p (range_with_len (a + 1) n) =
      filter-agree (λ i. not (i == t) && p i) p (a + 1) n (λ i low _. rw (ne_eqb i t (λ e. omega (arith, e, low, at))) refl) in
      rw (same.0, ap p same.1 ∙ is) (omega (arith, ap length rest))
  | inr other ↦
      let apart = other.1 in
      rw other.0 (by_test (p a) a _ _ (fewer p t (a + 1) n is (omega (arith, apart, from)) (omega (arith, below))))
]
  where
    by_test : (keeps : Bool) (x : ℕ) (xs ys : List ℕ) → length xs + 1 ≡ length ys → length (if keeps then x ∷ xs else xs) + 1 ≡ length (if keeps then x ∷ ys else ys)
    by_test true x xs ys long = omega (arith, long)
    by_test false x xs ys long = long

-- an id that isn't in a set can't leave it
pub without-none : (ids : List ℕ) (t : ℕ) → IsIdSet ids → has ids t ≡ false → ids ≡ without_id ids t
unfolding IsIdSet
without-none ids t is out = is ∙ ids_where-agree (has ids) (λ i. not (i == t) && has ids i) (λ i below. elim (eqb_tells i t) [
  | inl same ↦ rw (same.0, ap (has ids) same.1 ∙ out) refl
  | inr other ↦ rw other.0 refl
])

pub without-one : (ids : List ℕ) (t : ℕ) → t < 128 → IsIdSet ids → has ids t ≡ true → length (without_id ids t) + 1 ≡ length ids
unfolding IsIdSet ids_where
without-one ids t below is out = fewer (has ids) t 0 128 out (omega arith) below ∙ sym (ap length is)

-- how many are left, where one that may be there is taken out
pub without-count : (ids : List ℕ) (t : ℕ) → t < 128 → IsIdSet ids → (is_there : Bool) → is_there ≡ has ids t
    → length ids - from_bool is_there ≡ length (without_id ids t)
without-count ids t below set true is = omega (arith, without-one ids t below set (sym is))
without-count ids t below set false is = omega (arith, ap length (without-none ids t set (sym is)))
