-- The words of a call's six arguments, one after the other.
use Rattle.std.proofs.Common.{◌≡◌, ℕ, List, [], ◌∷◌, ◌++◌, length, get_or, map, codes, refl, sym, ap, arith, append_assoc}
use Rattle.printed_lines.specs.LineText.{with_words}
use Rattle.printed_lines.specs.Words.{hex}
use Rattle.printed_lines.proofs.Hex.{hex_small}

abbrev more : List ℕ → ℕ → List ℕ
more line n = line ++ 32 ∷ hex n

pub six_words : (line xs : List ℕ) → length xs ≡ 6
    → with_words line (map hex xs)
    ≡ more (more (more (more (more (more line (get_or xs 0 0)) (get_or xs 1 0)) (get_or xs 2 0)) (get_or xs 3 0)) (get_or xs 4 0)) (get_or xs 5 0)
six_words line [] l = absurd (omega (arith, l))
six_words line (a ∷ []) l = absurd (omega (arith, l))
six_words line (a ∷ b ∷ []) l = absurd (omega (arith, l))
six_words line (a ∷ b ∷ c ∷ []) l = absurd (omega (arith, l))
six_words line (a ∷ b ∷ c ∷ d ∷ []) l = absurd (omega (arith, l))
six_words line (a ∷ b ∷ c ∷ d ∷ e ∷ []) l = absurd (omega (arith, l))
six_words line (a ∷ b ∷ c ∷ d ∷ e ∷ f ∷ []) l = refl
six_words line (a ∷ b ∷ c ∷ d ∷ e ∷ f ∷ g ∷ xs) l = absurd (omega (arith, l))

pub four_zeros : (line : List ℕ) → line ++ codes " 0x0 0x0 0x0 0x0" ≡ more (more (more (more line 0) 0) 0) 0
four_zeros line =
    let zero_is : hex 0 ≡ codes "0x0" = ap (λ ds. codes "0x" ++ ds) (hex_small 0 (omega arith)) in
    sym (rw (zero_is, append_assoc, append_assoc, append_assoc) refl)
