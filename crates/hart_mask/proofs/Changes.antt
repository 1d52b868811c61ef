-- What a change of one bit does to the set that the bits stand for.
use Rattle.std.proofs.Common.{◌≡◌, ◌≢◌, ℕ, suc, ◌+◌, ◌-◌, ◌*◌, ◌/◌, ◌%◌, ◌^◌, ◌<◌, ◌≤◌, min, Bool, true, false, ltb, [], ◌∷◌, length, refl, sym, ap, ◌∙◌, arith, inl, inr, eqb}
use Rattle.std.specs.Prelude.{◌||◌, ◌&&◌, ◌⊎◌, not}
use Rattle.std.specs.Cmp.Lexicographic.{pointwise}
use Rattle.std.specs.Int.{bit_at, bit_not, trailing_zeros, w128}
use Rattle.std.specs.Int.RustNames.{bit_and, bit_or, count_ones}
use Rattle.std.proofs.Math.Nat.{mod-eq_of_lt, mod-lt}
use Rattle.std.proofs.lemmas.Bool.Decides.{Decides-eqb, Decides-like, eqb_tells, same_from_decides}
use Rattle.std.proofs.lemmas.Bool.{ltb-false, ltb-true}
use Rattle.std.proofs.lemmas.Nat.{and_le_l, div-add-mod', or_mod, pow_pos, zero_from_ones}
use Rattle.std.proofs.lemmas.Nat.Bits.{bit_at-suc, bit_at-trailing_zeros, bit_at-zero, bit_at_and, bit_at_cat_high, bit_at_cat_low, bit_at_clear_other, bit_at_clear_same, bit_at_lowest, bit_at_set_other, bit_at_set_same, same_from_bits_below}
use Rattle.std.proofs.lemmas.Slice.Eq.{bytes_eq-Decides}
use Rattle.hart_mask.specs.Bits.{is_set, word_of}
use Rattle.hart_mask.specs.Ids.{ids_where, with_id, without_id}
use Rattle.hart_mask.specs.Inside.Inverse.{word_of-own_ids}
use Rattle.hart_mask.proofs.Below.{filter-lowest}
use Rattle.hart_mask.proofs.Places.{count-of-places}
use Rattle.hart_mask.proofs.Sets.{ids_where-agree, with_id-ids_where, without_id-ids_where}

-- the number 0 has no ids
pub no_ids : ids_where (is_set 0) ≡ []
unfolding ids_where
no_ids = refl

-- a number with one bit set, and with one bit cleared, as `|= 1 << id` and `&= !(1 << id)` compute them
abbrev bit_set : ℕ → ℕ → ℕ
bit_set n id = bit_or n (1 * 2 ^ id % 2 ^ 128)

abbrev bit_cleared : ℕ → ℕ → ℕ
bit_cleared n id = bit_and n (bit_not w128 (1 * 2 ^ id % 2 ^ 128))

is_set-bit_set : (n id i : ℕ) → id < 128 → is_set (bit_set n id) i ≡ (eqb i id || is_set n i)
is_set-bit_set n id i below = elim (eqb_tells i id) [
  | inl same ↦
      ap (is_set (bit_set n id)) same.1
      ∙ ap (λ b. eqb b 1) (bit_at_set_same w128 n id below)
      ∙ sym (ap (λ b. b || is_set n i) same.0)
  | inr other ↦
      ap (λ b. eqb b 1) (bit_at_set_other w128 n id below i other.1)
      ∙ sym (ap (λ b. b || is_set n i) other.0)
]

is_set-bit_cleared : (n id i : ℕ) → id < 128 → i < 128 → is_set (bit_cleared n id) i ≡ (not (eqb i id) && is_set n i)
is_set-bit_cleared n id i below inside = elim (eqb_tells i id) [
  | inl same ↦
      ap (is_set (bit_cleared n id)) same.1
      ∙ ap (λ b. eqb b 1) (bit_at_clear_same w128 n id below)
      ∙ sym (ap (λ b. not b && is_set n i) same.0)
  | inr other ↦
      ap (λ b. eqb b 1) (bit_at_clear_other w128 n id below i inside other.1)
      ∙ sym (ap (λ b. not b && is_set n i) other.0)
]

pub ids-bit_set : (n id : ℕ) → id < 128 → ids_where (is_set (bit_or n (1 * 2 ^ id % 2 ^ 128))) ≡ with_id (ids_where (is_set n)) id
ids-bit_set n id below =
    ids_where-agree _ _ (λ i _. is_set-bit_set n id i below) ∙ sym (with_id-ids_where (is_set n) id)

pub ids-bit_cleared : (n id : ℕ) → id < 128
    → ids_where (is_set (bit_and n (bit_not w128 (1 * 2 ^ id % 2 ^ 128)))) ≡ without_id (ids_where (is_set n)) id
ids-bit_cleared n id below =
    ids_where-agree _ _ (λ i inside. is_set-bit_cleared n id i below inside) ∙ sym (without_id-ids_where (is_set n) id)

-- a number with one bit set still has 128 bits
pub bit_set-lt : (n id : ℕ) → n < 2 ^ 128 → bit_or n (1 * 2 ^ id % 2 ^ 128) < 2 ^ 128
bit_set-lt n id below =
    let bit = 1 * 2 ^ id % 2 ^ 128 in
    let small : bit < 2 ^ 128 = omega arith in
    let same : bit_or n bit % 2 ^ 128 ≡ bit_or n bit =
    or_mod n bit 128 ∙ ap (λ m. bit_or m (bit % 2 ^ 128)) (mod-eq_of_lt below) ∙ ap (bit_or n) (mod-eq_of_lt small) in
    omega (arith, same)

-- the lowest bit that is 1 is the first id, and the others are those of the number without that bit
pub ids-lowest : (n : ℕ) → 0 < n → n < 2 ^ 128
    → ids_where (is_set n) ≡ trailing_zeros w128 n ∷ ids_where (is_set (bit_cleared n (trailing_zeros w128 n)))
unfolding ids_where
ids-lowest n positive below =
    let lowest = bit_at-trailing_zeros w128 n positive below in
    let id = trailing_zeros w128 n in
    filter-lowest (is_set n) (is_set (bit_cleared n id)) 0 128 id (omega arith) lowest.0
    (ap (λ b. eqb b 1) lowest.1)
    (λ i _ before. ap (λ b. eqb b 1) (lowest.2 i before))
    (ap (λ b. eqb b 1) (bit_at_clear_same w128 n id lowest.0))
    (λ i inside other. ap (λ b. eqb b 1) (bit_at_clear_other w128 n id lowest.0 i inside other))

-- a number whose lowest bit is at k, as its part above and nothing below
lowest-whole : (n k : ℕ) → ((i : ℕ) → i < k → bit_at n i ≡ 0) → n / 2 ^ k * 2 ^ k + 0 ≡ n
lowest-whole n k none =
    let below = div-add-mod' n (2 ^ k) in
    let nothing : n % 2 ^ k ≡ 0 =
    same_from_bits_below k (n % 2 ^ k) 0 (mod-lt n (pow_pos k)) (pow_pos k)
    (λ i few. sym (ap (λ v. bit_at v i) (sym below) ∙ bit_at_cat_low (n / 2 ^ k) k (n % 2 ^ k) i few) ∙ none i few ∙ sym (bit_at-zero i)) in
    ap (λ r. n / 2 ^ k * 2 ^ k + r) (sym nothing) ∙ below

-- the number less one has the lowest bit cleared, and those above it as they are
less-one : (n k q i : ℕ) → q * 2 ^ k + 0 ≡ n → q % 2 ≡ 1 → k ≤ i → bit_at (n - 1) i ≡ bit_at (q - 1) (i - k)
less-one n k q i whole odd from =
    let parts : q * 2 ^ k ≡ (q - 1) * 2 ^ k + 2 ^ k = ap (λ r. r * 2 ^ k) (let e : q ≡ q - 1 + 1 = omega arith in e) ∙ more (q - 1) in
    let less : n - 1 ≡ (q - 1) * 2 ^ k + (2 ^ k - 1) = omega (arith, whole, parts, pow_pos k) in
    ap (λ v. bit_at v i) less ∙ bit_at_cat_high (q - 1) k (2 ^ k - 1) i (omega (arith, pow_pos k)) from
  where
    more : (r : ℕ) → (r + 1) * 2 ^ k ≡ r * 2 ^ k + 2 ^ k
    more r = omega arith

lowest-bits : (n k i : ℕ) → bit_at n k ≡ 1 → ((j : ℕ) → j < k → bit_at n j ≡ 0) → k < 128 → i < 128
    → bit_at (bit_and n (n - 1)) i ≡ bit_at (bit_cleared n k) i
lowest-bits n k i set none within inside = bit_at_and n (n - 1) i ∙ by_place (ltb i k) refl (eqb_tells i k)
  where
    above : (m : ℕ) → n / 2 ^ k % 2 ≡ 1 → bit_at (n / 2 ^ k - 1) (suc m) ≡ bit_at (n / 2 ^ k) (suc m)
    above m odd =
        let half : (n / 2 ^ k - 1) / 2 ≡ n / 2 ^ k / 2 = omega arith in
        bit_at-suc (n / 2 ^ k - 1) m ∙ ap (λ v. bit_at v m) half ∙ sym (bit_at-suc (n / 2 ^ k) m)

    by_place : (b : Bool) → ltb i k ≡ b → (((eqb i k ≡ true) × (i ≡ k)) ⊎ ((eqb i k ≡ false) × (i ≢ k)))
        → min (bit_at n i) (bit_at (n - 1) i) ≡ bit_at (bit_cleared n k) i
    by_place true is tells =
        let few = ltb-true i k is in
        let zero_here = none i few in
        let other : i ≢ k = λ e. absurd (omega (arith, few)) in
        let cleared = bit_at_clear_other w128 n k within i inside other in
        omega (arith, zero_here, cleared)
    by_place false is (inl same) =
        let here = less-one n k (n / 2 ^ k) i (lowest-whole n k none) set (omega (arith, same.1)) in
        let low : bit_at (n / 2 ^ k - 1) (i - k) ≡ 0 = ap (bit_at (n / 2 ^ k - 1)) (let e : i - k ≡ 0 = omega (arith, same.1) in e) ∙ bit_at_lowest (n / 2 ^ k - 1) ∙ omega (arith, set) in
        let cleared = ap (bit_at (bit_cleared n k)) same.1 ∙ bit_at_clear_same w128 n k within in
        omega (arith, here, low, cleared)
    by_place false is (inr other) =
        let up = ltb-false i k is in
        let here = less-one n k (n / 2 ^ k) i (lowest-whole n k none) set up in
        let m = i - k - 1 in
        let e : i - k ≡ suc m = omega (arith, other.1, up) in
        let was : bit_at n i ≡ bit_at (n / 2 ^ k) (i - k) =
        ap (λ v. bit_at v i) (sym (lowest-whole n k none)) ∙ bit_at_cat_high (n / 2 ^ k) k 0 i (pow_pos k) up in
        let same = ap (bit_at (n / 2 ^ k - 1)) e ∙ above m set ∙ sym (ap (bit_at (n / 2 ^ k)) e) in
        let cleared = bit_at_clear_other w128 n k within i inside other.1 in
        omega (arith, here, was, same, cleared)

-- the number and the number less one have the bits in common that are left without the lowest one
pub lowest-cleared : (n : ℕ) → 0 < n → n < 2 ^ 128 → bit_and n (n - 1) ≡ bit_and n (bit_not w128 (1 * 2 ^ trailing_zeros w128 n % 2 ^ 128))
lowest-cleared n positive below =
    let lowest = bit_at-trailing_zeros w128 n positive below in
    same_from_bits_below 128 (bit_and n (n - 1)) (bit_cleared n (trailing_zeros w128 n))
    (omega (arith, and_le_l n (n - 1), below)) (omega (arith, and_le_l n (bit_not w128 (1 * 2 ^ trailing_zeros w128 n % 2 ^ 128)), below))
    (λ i inside. lowest-bits n (trailing_zeros w128 n) i lowest.1 lowest.2 lowest.0 inside)

-- the ids are as many as the ones
pub length-ids : (n : ℕ) → n < 2 ^ 128 → length (ids_where (is_set n)) ≡ count_ones n
unfolding ids_where
length-ids n below = count-of-places n 128 ∙ ap count_ones (mod-eq_of_lt below)

-- there is no id just where the number is 0
pub eqb-ids : (n : ℕ) → n < 2 ^ 128 → eqb n 0 ≡ eqb (length (ids_where (is_set n))) 0
unfolding count_ones
eqb-ids n below = elim (eqb_tells n 0) [
  | inl same ↦ same.0 ∙ sym (ap (λ m. eqb m 0) (length-ids n below ∙ ap count_ones same.1))
  | inr other ↦ elim (eqb_tells (length (ids_where (is_set n))) 0) [
    | inl none ↦ absurd (other.1 (zero_from_ones n (sym (length-ids n below) ∙ none.1)))
    | inr some ↦ other.0 ∙ sym some.0
  ]
]

-- numbers are equal just where their ids are
pub pointwise-ids : (m n : ℕ) → m < 2 ^ 128 → n < 2 ^ 128 → eqb m n ≡ pointwise eqb (ids_where (is_set m)) (ids_where (is_set n))
pointwise-ids m n small below =
    same_from_decides (eqb m n) (pointwise eqb (ids_where (is_set m)) (ids_where (is_set n)))
    (Decides-like (eqb m n) (ap (λ k. ids_where (is_set k)))
    (λ e. sym (word_of-own_ids m small) ∙ ap word_of e ∙ word_of-own_ids n below)
    (Decides-eqb m n))
    (bytes_eq-Decides (ids_where (is_set m)) (ids_where (is_set n)))
