-- The table of the values of digits.
use Rattle.std.proofs.Common.{◌≡◌, ℕ, zero, suc, ◌-◌, ◌<◌, Bool, true, ◌&&◌, T, eqb, get_or, arith, inl, inr, eq-zero-or-pos, eqb→eq}
use Rattle.std.specs.Char.{digit_value}
use lib.Ieee.Fits.{and_l, and_r}
use Rattle.line_words.specs.declared.digits.TheConstants.{DIGIT_VALUES}

-- the table has the values of the bytes below n
abbrev are_values : ℕ → Bool
are_values zero = true
are_values (suc b) = eqb (get_or DIGIT_VALUES b 0) (digit_value b) && are_values b

below : (n b : ℕ) → T (are_values n) → b < n → get_or DIGIT_VALUES b 0 ≡ digit_value b
below zero b t h = absurd (omega arith)
below (suc n) b t h =
    elim (eq-zero-or-pos (n - b)) [
      | inl z ↦ let e : b ≡ n = omega arith in rw e (eqb→eq _ _ (and_l _ (are_values n) t))
      | inr g ↦ below n b (and_r _ (are_values n) t) (omega arith)
    ]

pub digit_value_at : (b : ℕ) → b < 256 → get_or DIGIT_VALUES b 0 ≡ digit_value b
digit_value_at b h = below 256 b tt h
