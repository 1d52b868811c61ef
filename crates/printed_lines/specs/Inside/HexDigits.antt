-- The hexadecimal digits of a number, as values.
use Rattle.std.specs.Prelude.{ℕ, zero, suc, ◌/◌, ◌%◌, List, [], ◌∷◌, ◌++◌}

-- so many of a number's digits, the last one last; in front of its first they are 0
abbrev pub last_digits : (count n : ℕ) → List ℕ
last_digits zero n = []
last_digits (suc count) n = last_digits count (n / 16) ++ n % 16 ∷ []
