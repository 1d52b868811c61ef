-- Sets of ids by their tests: what proofs about code that uses sets cite.
use Rattle.std.proofs.Common.{◌≡◌, ℕ, ◌<◌, Bool, true, false, List, [], ◌∷◌, ◌++◌, subst, refl, sym, ap, ◌∙◌, arith, inl, inr}
use Rattle.std.specs.Prelude.{◌==◌, ◌||◌, ◌&&◌, not, if◌then◌else◌}
use Rattle.std.specs.List.{All, Contains, range_with_len}
use Rattle.std.proofs.lemmas.Bool.{both_ways, cases_lt, or_left, or_right}
use Rattle.std.proofs.lemmas.List.Elements.{All-contains, All-filter, All-same, Contains-append_right}
use Rattle.std.proofs.lemmas.List.Folds.{list_any-append}
use Rattle.std.proofs.lemmas.List.FromFn.{get_or-range_with_len, length-range_with_len}
use Rattle.hart_mask.specs.Ids.{IsIdSet, intersection_of, has, ids_where, union_of, with_bit, with_id, without_id}
use Rattle.hart_mask.proofs.Below.{any-filter, any-filter_above, eqb-same, filter-agree}

-- tests that agree on the ids give the same set
pub ids_where-agree : (p q : ℕ → Bool) → ((i : ℕ) → i < 128 → p i ≡ q i) → ids_where p ≡ ids_where q
unfolding ids_where
ids_where-agree p q agree = filter-agree p q 0 128 (λ i _ below. agree i (omega arith))

-- an id is in the set just where the test gives true
pub has-ids_where : (p : ℕ → Bool) (i : ℕ) → i < 128 → has (ids_where p) i ≡ p i
unfolding ids_where
has-ids_where p i below = any-filter p 128 i below

pub IsIdSet-ids_where : (p : ℕ → Bool) → IsIdSet (ids_where p)
unfolding IsIdSet
IsIdSet-ids_where p = ids_where-agree p (has (ids_where p)) (λ i below. sym (has-ids_where p i below))

-- sets with the same members are equal
pub same_sets : (a b : List ℕ) → IsIdSet a → IsIdSet b → ((i : ℕ) → i < 128 → has a i ≡ has b i) → a ≡ b
unfolding IsIdSet
same_sets a b is_a is_b agree = is_a ∙ ids_where-agree (has a) (has b) agree ∙ sym is_b

-- one id more, or one less, by tests
pub with_id-ids_where : (p : ℕ → Bool) (id : ℕ) → with_id (ids_where p) id ≡ ids_where (λ i. i == id || p i)
with_id-ids_where p id = ids_where-agree _ _ (λ i below. ap (λ b. i == id || b) (has-ids_where p i below))

pub without_id-ids_where : (p : ℕ → Bool) (id : ℕ) → without_id (ids_where p) id ≡ ids_where (λ i. not (i == id) && p i)
without_id-ids_where p id = ids_where-agree _ _ (λ i below. ap (λ b. not (i == id) && b) (has-ids_where p i below))

-- a test that no id passes gives the empty set
pub ids_where-none : (p : ℕ → Bool) → ((i : ℕ) → i < 128 → p i ≡ false) → ids_where p ≡ []
unfolding ids_where
ids_where-none p none = filter-agree p (λ _. false) 0 128 (λ i _ below. none i (omega arith))

-- a rule for one id more, or one less
pub with_id-by : (p q : ℕ → Bool) (id : ℕ) → ((i : ℕ) → i < 128 → (i == id || p i) ≡ q i) → with_id (ids_where p) id ≡ ids_where q
with_id-by p q id rule = with_id-ids_where p id ∙ ids_where-agree _ q rule

pub without_id-by : (p q : ℕ → Bool) (id : ℕ) → ((i : ℕ) → i < 128 → (not (i == id) && p i) ≡ q i) → without_id (ids_where p) id ≡ ids_where q
without_id-by p q id rule = without_id-ids_where p id ∙ ids_where-agree _ q rule

pub with_bit-by : (p q : ℕ → Bool) (id : ℕ) (value : Bool) → ((i : ℕ) → i < 128 → (if i == id then value else p i) ≡ q i) → with_bit (ids_where p) id value ≡ ids_where q
with_bit-by p q id value rule = ids_where-agree _ q (λ i below.
    ap (λ b. if i == id then value else b) (has-ids_where p i below) ∙ rule i below)

-- a rule for the ids of either set, or of both
pub union-by : (p q r : ℕ → Bool) → ((i : ℕ) → i < 128 → (p i || q i) ≡ r i) → union_of (ids_where p) (ids_where q) ≡ ids_where r
union-by p q r rule = ids_where-agree _ r (λ i below.
    ap (λ b. b || has (ids_where q) i) (has-ids_where p i below) ∙ ap (λ b. p i || b) (has-ids_where q i below) ∙ rule i below)

pub intersection-by : (p q r : ℕ → Bool) → ((i : ℕ) → i < 128 → (p i && q i) ≡ r i) → intersection_of (ids_where p) (ids_where q) ≡ ids_where r
intersection-by p q r rule = ids_where-agree _ r (λ i below.
    ap (λ b. b && has (ids_where q) i) (has-ids_where p i below) ∙ ap (λ b. p i && b) (has-ids_where q i below) ∙ rule i below)

-- each id that is in a set passes its test, and is below the limit
pub passes-ids_where : (p : ℕ → Bool) (i : ℕ) → has (ids_where p) i ≡ true → (i < 128) × (p i ≡ true)
unfolding ids_where
passes-ids_where p i is = elim (cases_lt i 128) [
  | inl low ↦ (low, sym (any-filter p 128 i low) ∙ is)
  | inr high ↦ absurd (both_ways _ (any-filter_above p 128 i high) is)
]

-- each id of a set, as a loop comes to it, is in it
pub split-has : (before after ids : List ℕ) (id : ℕ) → before ++ id ∷ after ≡ ids → has ids id ≡ true
split-has before after ids id split =
    ap (λ is. has is id) (sym split)
    ∙ list_any-append (λ i. i == id) before (id ∷ after)
    ∙ or_right (has before id) (has (id ∷ after) id) (or_left (id == id) (has after id) (eqb-same id))

-- and below the limit
pub split-below : (before after ids : List ℕ) (id : ℕ) → IsIdSet ids → before ++ id ∷ after ≡ ids → id < 128
unfolding IsIdSet ids_where
split-below before after ids id is split =
    All-contains (λ i. i < 128) ids id
    (All-same (λ i. i < 128) ids _ is (All-filter (has ids) (λ i. i < 128) (range_with_len 0 128) below))
    (subst (λ is. Contains is id) split (Contains-append_right before (id ∷ after) id (0, omega arith, refl)))
  where
    below : All (λ i. i < 128) (range_with_len 0 128)
    below k d inside =
        let long = length-range_with_len 0 128 in
        rw get_or-range_with_len (omega arith)
