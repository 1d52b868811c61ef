-- How many bits of a number are 1.
use Rattle.std.proofs.Common.{◌≡◌, ℕ, ◌+◌, ◌%◌, ◌^◌, ◌<◌, suc, zero, cond, [], ◌∷◌, length, refl, sym, ap, ◌∙◌, arith, inl, inr, eqb, length-append}
use Rattle.std.specs.Int.{bit_at}
use Rattle.std.specs.Int.RustNames.{count_ones}
use Rattle.std.specs.List.{filter, range_with_len}
use Rattle.std.proofs.lemmas.Bool.Decides.{eqb_tells}
use Rattle.std.proofs.lemmas.Nat.{ones_cat, pow_pos}
use Rattle.std.proofs.lemmas.Nat.Bits.{bit_at-lt}
use Rattle.hart_mask.specs.Bits.{is_set}
use Rattle.hart_mask.specs.Inside.Inverse.{filter-more, low-more}

count-of-bit : (k b rest : ℕ) → b < 2 → rest + length (cond (eqb b 1) (k ∷ []) []) ≡ count_ones b + rest
unfolding count_ones
count-of-bit k b rest small = elim (eqb_tells b 1) [
  | inl one ↦ rw (one.0, one.1) (omega arith)
  | inr other ↦ let apart = other.1 in let none : b ≡ 0 = omega arith in rw (other.0, none) (omega arith)
]

-- such places are as many as the number's ones
pub count-of-places : (n k : ℕ) → length (filter (is_set n) (range_with_len 0 k)) ≡ count_ones (n % 2 ^ k)
unfolding count_ones
count-of-places n zero = let low : n % 2 ^ 0 ≡ 0 = omega arith in rw low refl
count-of-places n (suc k) =
    let positive = pow_pos k in
    let low : n % 2 ^ k < 2 ^ k = omega arith in
    ap length (filter-more (is_set n) k)
    ∙ length-append (filter (is_set n) (range_with_len 0 k)) (cond (is_set n k) (k ∷ []) [])
    ∙ ap (λ m. m + length (cond (is_set n k) (k ∷ []) [])) (count-of-places n k)
    ∙ count-of-bit k (bit_at n k) (count_ones (n % 2 ^ k)) (bit_at-lt n k)
    ∙ sym (ones_cat k (bit_at n k) (n % 2 ^ k) low)
    ∙ sym (ap count_ones (low-more n k))
