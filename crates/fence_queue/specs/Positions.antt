-- The position of a member in a list.
use Rattle.std.specs.Prelude.{ℕ, zero, suc, Bool, List, [], ◌∷◌, if◌then◌else◌}

-- one place later; 0, no place, stays 0
abbrev pub one_later : ℕ → ℕ
one_later zero = 0
one_later (suc place) = suc (suc place)

-- The position, counted from 1, of the first member that passes a test; 0 if none does.
abbrev pub position_of : {A : Type 0} → (A → Bool) → List A → ℕ
position_of test [] = 0
position_of test (x ∷ xs) = if test x then 1 else one_later (position_of test xs)
