-- The ids of a number make up that number, which the copy of a set needs.
use Rattle.std.proofs.Common.{◌≡◌, ℕ, ◌+◌, ◌*◌, ◌%◌, ◌^◌, ◌<◌, suc, zero, Bool, cond, [], ◌∷◌, ◌++◌, sym, ap, ◌∙◌, arith, inl, inr, eqb, add-one}
use Rattle.std.specs.Int.{bit_at}
use Rattle.std.specs.List.{filter, range_with_len, sum_by}
use Rattle.std.proofs.Math.Nat.{mod-eq_of_lt}
use Rattle.std.proofs.lemmas.Bool.Decides.{eqb_tells}
use Rattle.std.proofs.lemmas.List.{map-id}
use Rattle.std.proofs.lemmas.List.Elements.{filter-append}
use Rattle.std.proofs.lemmas.List.FromFn.{map-range_with_len_more}
use Rattle.std.proofs.lemmas.List.Sums.{sum_by-append}
use Rattle.std.proofs.lemmas.Nat.{mod-pow-add}
use Rattle.std.proofs.lemmas.Nat.Bits.{bit_at-lt}
use Rattle.hart_mask.specs.Bits.{is_set, word_of}
use Rattle.hart_mask.specs.Ids.{ids_where}

range-more : (n : ℕ) → range_with_len 0 (n + 1) ≡ range_with_len 0 n ++ n ∷ []
range-more n =
    sym (map-id (range_with_len 0 (n + 1)))
    ∙ map-range_with_len_more (λ (i : ℕ). i) 0 n n (omega arith)
    ∙ ap (λ below. below ++ n ∷ []) (map-id (range_with_len 0 n))

-- what a test keeps below one number more
pub filter-more : (p : ℕ → Bool) (n : ℕ)
    → filter p (range_with_len 0 (suc n)) ≡ filter p (range_with_len 0 n) ++ cond (p n) (n ∷ []) []
filter-more p n =
    ap (λ m. filter p (range_with_len 0 m)) (sym (add-one n))
    ∙ ap (filter p) (range-more n)
    ∙ filter-append p (range_with_len 0 n) (n ∷ [])

-- one bit more of a number
pub low-more : (n k : ℕ) → n % 2 ^ suc k ≡ bit_at n k * 2 ^ k + n % 2 ^ k
low-more n k = let e : suc k ≡ 1 + k = omega arith in rw e (mod-pow-add n 1 k)

sum-of-bit : (k b rest : ℕ) → b < 2 → rest + sum_by (λ id. 2 ^ id) (cond (eqb b 1) (k ∷ []) []) ≡ b * 2 ^ k + rest
sum-of-bit k b rest small = elim (eqb_tells b 1) [
  | inl one ↦ rw (one.0, one.1) (omega arith)
  | inr other ↦ let apart = other.1 in let none : b ≡ 0 = omega arith in rw (other.0, none) (omega arith)
]

-- the powers of the places at which a number's bit is 1 make the number
pub sum-of-places : (n k : ℕ) → sum_by (λ id. 2 ^ id) (filter (is_set n) (range_with_len 0 k)) ≡ n % 2 ^ k
sum-of-places n zero = omega arith
sum-of-places n (suc k) =
    ap (sum_by (λ id. 2 ^ id)) (filter-more (is_set n) k)
    ∙ sum_by-append (λ id. 2 ^ id) (filter (is_set n) (range_with_len 0 k)) (cond (is_set n k) (k ∷ []) [])
    ∙ ap (λ m. m + sum_by (λ id. 2 ^ id) (cond (is_set n k) (k ∷ []) [])) (sum-of-places n k)
    ∙ sum-of-bit k (bit_at n k) (n % 2 ^ k) (bit_at-lt n k)
    ∙ sym (low-more n k)

-- the number of a number's ids is that number
pub word_of-own_ids : (n : ℕ) → n < 2 ^ 128 → word_of (ids_where (is_set n)) ≡ n
unfolding word_of ids_where
word_of-own_ids n below = sum-of-places n 128 ∙ mod-eq_of_lt below
