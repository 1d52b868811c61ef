-- Words that are 0.
use Rattle.std.proofs.Common.{◌≡◌, inl, inr, zero, suc, [], ◌∷◌, refl, replicate, ℕ, List, length, get_or, arith}
use Rattle.std.proofs.lemmas.Bool.{cases_lt}
use Rattle.sv39.specs.Nonzero.{IsClear}

-- two stretches, one behind the other
pub clear-joined : (words : List ℕ) (from at to : ℕ) → IsClear words from at → IsClear words at to → IsClear words from to
clear-joined words from at to first second =
    λ k after below. elim (cases_lt k at) [ inl before ↦ first k after before | inr behind ↦ second k behind below ]

-- words that are all 0
pub all-clear : (words : List ℕ) → IsClear words 0 (length words) → words ≡ replicate (length words) 0
all-clear [] clear = refl
all-clear (word ∷ words) clear =
    let first : word ≡ 0 = clear 0 (omega arith) (omega arith) in
    let rest : words ≡ replicate (length words) 0 = all-clear words (λ k after below. clear (suc k) (omega arith) (omega arith)) in
    (λ i. first i ∷ rest i)

-- words that were made 0
pub zero-there : (n k z : ℕ) → get_or (replicate n z) k z ≡ z
zero-there zero k z = refl
zero-there (suc n) zero z = refl
zero-there (suc n) (suc k) z = zero-there n k z
