-- When a mask names a hart that isn't there, and where the harts are that it names.
use Rattle.std.proofs.Common.{◌≡◌, ◌≢◌, ℕ, ◌+◌, ◌-◌, ◌*◌, ◌/◌, ◌%◌, ◌^◌, ◌<◌, ◌≤◌, Bool, true, false, not, sym, ap, ◌∙◌, arith, inl, inr, eqb, leb, zero-add}
use Rattle.std.specs.Prelude.{◌&&◌, ◌||◌, Some, None}
use Rattle.std.specs.Int.{bit_at, trailing_zeros, w64}
use Rattle.std.specs.List.{list_any, range_with_len}
use Rattle.std.proofs.lemmas.Bool.{and_from, and_left, and_parts, and_right, both_ways, cases_lt, cond-false, cond-true, eq-eqb, eqb-true, le-leb, leb-true, lt-leb, ltb-true, ne_eqb, or_from, or_left, or_right}
use Rattle.std.proofs.lemmas.Bool.Decides.{eqb_tells}
use Rattle.std.proofs.lemmas.List.Folds.{list_any_at, list_any_none}
use Rattle.std.proofs.lemmas.List.FromFn.{get_or-range_with_len, length-range_with_len}
use Rattle.std.proofs.lemmas.Nat.{mod_below, pow_pos, shr-shr, shr_le, shr_split}
use Rattle.std.proofs.lemmas.Nat.Bits.{bit_at-trailing_zeros, bit_at_above}
use Rattle.hart_mask.specs.Bits.{is_set}
use Rattle.hart_mask.specs.HartList.{base_of_all, named_by, names_stray, targets_of}
use Rattle.hart_mask.specs.Ids.{has, ids_below}
use Rattle.hart_mask.proofs.Sets.{passes-ids_where}

any-at : (p : ℕ → Bool) (k i : ℕ) → i < k → p i ≡ true → list_any p (range_with_len 0 k) ≡ true
any-at p k i low is =
    let long = length-range_with_len 0 k in
    list_any_at p (range_with_len 0 k) i 0 (omega arith) (ap p (get_or-range_with_len 0 k i 0 low ∙ zero-add i) ∙ is)

any-none : (p : ℕ → Bool) (k : ℕ) → ((i : ℕ) → i < k → p i ≡ false) → list_any p (range_with_len 0 k) ≡ false
any-none p k none = list_any_none p (range_with_len 0 k) (λ i d inside.
    let long = length-range_with_len 0 k in
    let low : i < k = omega arith in
    ap p (get_or-range_with_len 0 k i d low ∙ zero-add i) ∙ none i low)

-- a bit that is set for a hart that isn't there
pub stray-at : (mask base n i : ℕ) → i < 64 → bit_at mask i ≡ 1 → n ≤ base + i → names_stray mask base n ≡ true
unfolding names_stray
stray-at mask base n i low set out =
    any-at (λ i. is_set mask i && leb n (base + i)) 64 i low
    (and_from (is_set mask i) (leb n (base + i)) (ap (λ bit. eqb bit 1) set) (le-leb n (base + i) out))

-- no bit is set for such a hart
pub stray-none : (mask base n : ℕ) → ((i : ℕ) → i < 64 → n ≤ base + i → bit_at mask i ≡ 0) → names_stray mask base n ≡ false
unfolding names_stray
stray-none mask base n none =
    any-none (λ i. is_set mask i && leb n (base + i)) 64 (λ i low. elim (cases_lt (base + i) n) [
      | inl there ↦ and_right (is_set mask i) (leb n (base + i)) (lt-leb n (base + i) there)
      | inr out ↦ and_left (is_set mask i) (leb n (base + i)) (ap (λ bit. eqb bit 1) (none i low out))
    ])

-- with 64 harts and more from its base on, none is stray
pub stray-far : (mask base n : ℕ) → base < n → 64 ≤ n - base → names_stray mask base n ≡ false
stray-far mask base n inside long = stray-none mask base n (λ i low out. absurd (omega arith))

-- a bit is set at a place from `room` on, where something is left of the mask without its low `room` bits
high-bit : (mask room : ℕ) → mask < 2 ^ 64 → 0 < mask / 2 ^ room → (i : ℕ) × (i < 64) × (room ≤ i) × (bit_at mask i ≡ 1)
high-bit mask room small positive =
    let high = mask / 2 ^ room in
    let place = trailing_zeros w64 high in
    let lowest = bit_at-trailing_zeros w64 high positive (omega (arith, shr_le mask room)) in
    let set : bit_at mask (room + place) ≡ 1 = sym (ap (λ m. m % 2) (shr-shr mask room place)) ∙ lowest.1 in
    elim (cases_lt (room + place) 64) [
      | inl low ↦ (room + place, low, omega arith, set)
      | inr above ↦ absurd (omega (arith, set, bit_at_above mask 64 (room + place) small above))
    ]

-- with fewer, a bit is stray just where something is left of the mask without the bits of those harts
pub stray-near : (mask base n : ℕ) → mask < 2 ^ 64 → base < n → names_stray mask base n ≡ not (eqb (mask / 2 ^ (n - base)) 0)
stray-near mask base n small inside =
    let room = n - base in
    elim (eqb_tells (mask / 2 ^ room) 0) [
      | inl none ↦
          let low : mask < 2 ^ room = omega (arith, ap (λ q. q * 2 ^ room) none.1, shr_split mask room, mod_below mask (2 ^ room) (pow_pos room)) in
          stray-none mask base n (λ i _ out. bit_at_above mask room i low (omega arith)) ∙ sym (ap not none.0)
      | inr some ↦
          let apart = some.1 in
          let bit = high-bit mask room small (omega arith) in
          stray-at mask base n bit.0 bit.1 bit.3 (omega (arith, bit.2)) ∙ sym (ap not some.0)
    ]

-- without a stray bit, each hart that the mask names is there
pub named_by-below : (mask base n i : ℕ) → mask < 2 ^ 64 → names_stray mask base n ≡ false → has (named_by mask base) i ≡ true → i < n
named_by-below mask base n i small none is =
    let parts = and_parts (leb base i) (is_set mask (i - base)) (passes-ids_where _ i is).1 in
    let from = leb-true base i parts.0 in
    let set = eqb-true (bit_at mask (i - base)) 1 parts.1 in
    elim (cases_lt i n) [
      | inl there ↦ there
      | inr out ↦ elim (cases_lt (i - base) 64) [
        | inl low ↦ absurd (both_ways _ none (stray-at mask base n (i - base) low set (omega arith)))
        | inr high ↦ absurd (omega (arith, set, bit_at_above mask 64 (i - base) small high))
      ]
    ]

pub ids_below-below : (n i : ℕ) → has (ids_below n) i ≡ true → i < n
ids_below-below n i is = ltb-true i n (passes-ids_where _ i is).1

-- the rule, case by case
pub targets_of-all : (mask base n : ℕ) → base ≡ 2 ^ 64 - 1 → targets_of mask base n ≡ Some (ids_below n)
unfolding targets_of
targets_of-all mask base n all = cond-true (eqb base base_of_all) _ _ (eq-eqb base base_of_all all)

pub targets_of-outside : (mask base n : ℕ) → base ≢ 2 ^ 64 - 1 → n ≤ base → targets_of mask base n ≡ None
unfolding targets_of
targets_of-outside mask base n other outside =
    cond-false (eqb base base_of_all) _ _ (ne_eqb base base_of_all other)
    ∙ cond-true (leb n base || names_stray mask base n) _ _ (or_left (leb n base) (names_stray mask base n) (le-leb n base outside))

pub targets_of-stray : (mask base n : ℕ) → base ≢ 2 ^ 64 - 1 → names_stray mask base n ≡ true → targets_of mask base n ≡ None
unfolding targets_of
targets_of-stray mask base n other stray =
    cond-false (eqb base base_of_all) _ _ (ne_eqb base base_of_all other)
    ∙ cond-true (leb n base || names_stray mask base n) _ _ (or_right (leb n base) (names_stray mask base n) stray)

pub targets_of-named : (mask base n : ℕ) → base ≢ 2 ^ 64 - 1 → base < n → names_stray mask base n ≡ false
    → targets_of mask base n ≡ Some (named_by mask base)
unfolding targets_of
targets_of-named mask base n other inside none =
    cond-false (eqb base base_of_all) _ _ (ne_eqb base base_of_all other)
    ∙ cond-false (leb n base || names_stray mask base n) _ _ (or_from (leb n base) (names_stray mask base n) (lt-leb n base inside) none)
