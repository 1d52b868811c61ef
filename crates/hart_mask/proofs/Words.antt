-- What the operations on the words of bits do to the sets that the bits stand for.
use Rattle.std.proofs.Common.{◌≡◌, ℕ, ◌-◌, ◌*◌, ◌/◌, ◌%◌, ◌^◌, ◌<◌, add-zero, max, min, refl, sym, ap, ◌∙◌, arith, inl, inr, eqb, leb}
use Rattle.std.specs.Prelude.{◌||◌, ◌&&◌}
use Rattle.std.specs.Int.{bit_at}
use Rattle.std.specs.Int.RustNames.{bit_and, bit_or}
use Rattle.std.proofs.Math.Nat.{zero-max}
use Rattle.std.proofs.lemmas.Bool.{cases_lt, eq-eqb, le-ltb, lt-ltb}
use Rattle.std.proofs.lemmas.Bool.Decides.{eqb_tells, leb_tells}
use Rattle.std.proofs.lemmas.Nat.{one_shl, or_lt, pow_pos, shr_split}
use Rattle.std.proofs.lemmas.Nat.Bits.{bit_at-lt, bit_at-zero, bit_at_and, bit_at_cat_high, bit_at_cat_low, bit_at_ones, bit_at_ones_above, bit_at_or}
use Rattle.hart_mask.specs.Bits.{is_set}
use Rattle.hart_mask.specs.HartList.{named_by}
use Rattle.hart_mask.specs.Ids.{intersection_of, ids_below, ids_where, union_of}
use Rattle.hart_mask.proofs.Sets.{intersection-by, ids_where-agree, union-by}

eqb-max : (a b : ℕ) → a < 2 → b < 2 → eqb (max a b) 1 ≡ (eqb a 1 || eqb b 1)
eqb-max a b a_bit b_bit = elim (eqb_tells a 1) [
  | inl one ↦ rw (one.0, one.1) (eq-eqb _ 1 (omega arith))
  | inr other ↦ let apart = other.1 in let none : a ≡ 0 = omega arith in rw (other.0, none) (ap (λ m. eqb m 1) (zero-max b))
]

eqb-min : (a b : ℕ) → a < 2 → b < 2 → eqb (min a b) 1 ≡ (eqb a 1 && eqb b 1)
eqb-min a b a_bit b_bit = elim (eqb_tells a 1) [
  | inl one ↦ let small : min a b ≡ b = omega (arith, one.1) in rw (small, one.0) refl
  | inr other ↦ let apart = other.1 in let none : min a b ≡ 0 = omega arith in rw (none, other.0) refl
]

-- two words of 128 bits give a word of 128 bits
pub or_of_128 : (a b : ℕ) → a < 2 ^ 128 → b < 2 ^ 128 → bit_or a b < 2 ^ 128
or_of_128 a b a_small b_small = or_lt 128 a b a_small b_small

pub ids-bit_or : (a b : ℕ) → ids_where (is_set (bit_or a b)) ≡ union_of (ids_where (is_set a)) (ids_where (is_set b))
ids-bit_or a b = sym (union-by _ _ _ (λ i _.
    sym (ap (λ bit. eqb bit 1) (bit_at_or a b i) ∙ eqb-max (bit_at a i) (bit_at b i) (bit_at-lt a i) (bit_at-lt b i))))

pub ids-bit_and : (a b : ℕ) → ids_where (is_set (bit_and a b)) ≡ intersection_of (ids_where (is_set a)) (ids_where (is_set b))
ids-bit_and a b = sym (intersection-by _ _ _ (λ i _.
    sym (ap (λ bit. eqb bit 1) (bit_at_and a b i) ∙ eqb-min (bit_at a i) (bit_at b i) (bit_at-lt a i) (bit_at-lt b i))))

-- the low n bits set are the ids below n
pub ids-ones : (n : ℕ) → ids_where (is_set (2 ^ n - 1)) ≡ ids_below n
ids-ones n = ids_where-agree _ _ (λ i _. elim (cases_lt i n) [
  | inl low ↦ ap (λ bit. eqb bit 1) (bit_at_ones n i low) ∙ sym (lt-ltb i n low)
  | inr high ↦ ap (λ bit. eqb bit 1) (bit_at_ones_above n i high) ∙ sym (le-ltb i n high)
])

-- as `(1 << n) - 1` computes them
pub ids-low_ones : (n : ℕ) → n < 128 → ids_where (is_set (1 * 2 ^ n % 2 ^ 128 - 1)) ≡ ids_below n
ids-low_ones n below = ap (λ m. ids_where (is_set (m - 1))) (one_shl n 128 below) ∙ ids-ones n

bit_at-mod : (n k i : ℕ) → i < k → bit_at (n % 2 ^ k) i ≡ bit_at n i
bit_at-mod n k i low = sym (bit_at_cat_low (n / 2 ^ k) k (n % 2 ^ k) i low) ∙ ap (λ m. bit_at m i) (shr_split n k)

is_set-shifted : (mask base i : ℕ) → is_set (mask * 2 ^ base) i ≡ (leb base i && is_set mask (i - base))
is_set-shifted mask base i = elim (leb_tells base i) [
  | inl from ↦
      ap (λ m. is_set m i) (sym (add-zero (mask * 2 ^ base)))
      ∙ ap (λ bit. eqb bit 1) (bit_at_cat_high mask base 0 i (pow_pos base) from.1)
      ∙ sym (ap (λ b. b && is_set mask (i - base)) from.0)
  | inr before ↦
      ap (λ m. is_set m i) (sym (add-zero (mask * 2 ^ base)))
      ∙ ap (λ bit. eqb bit 1) (bit_at_cat_low mask base 0 i before.1 ∙ bit_at-zero i)
      ∙ sym (ap (λ b. b && is_set mask (i - base)) before.0)
]

-- a mask shifted to its base is the ids that it names
pub ids-shifted : (mask base : ℕ) → ids_where (is_set (mask * 2 ^ base % 2 ^ 128)) ≡ named_by mask base
ids-shifted mask base = ids_where-agree _ _ (λ i below.
    ap (λ bit. eqb bit 1) (bit_at-mod (mask * 2 ^ base) 128 i below) ∙ is_set-shifted mask base i)
