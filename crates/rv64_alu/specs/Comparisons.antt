-- When branches are taken (unprivileged ISA 20191213, 2.5).
use Rattle.std.specs.Prelude.{ℕ, Bool, not, ◌==◌, nat_le, nat_lt, int_le, int_lt}
use Rattle.std.specs.Int.{cast_signed, w64}
use Rattle.rv64_alu.specs.declared.comparison.Comparison.{Comparison}
use Rattle.rv64_alu.specs.declared.comparison.Comparison.TheVariants.{Eq, Ne, Lt, Ge, Ltu, Geu}

-- Whether a branch is taken that compares these two values.
abbrev pub is_taken : Comparison → (a b : ℕ) → Bool
is_taken Eq a b = a == b
is_taken Ne a b = not (a == b)
is_taken Lt a b = int_lt (cast_signed w64 a) (cast_signed w64 b)
is_taken Ge a b = int_le (cast_signed w64 b) (cast_signed w64 a)
is_taken Ltu a b = nat_lt a b
is_taken Geu a b = nat_le b a
