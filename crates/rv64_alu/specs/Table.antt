-- What each operation of RV64I and RV64M on registers makes of its operands (unprivileged ISA 20191213, 2.4, 5.2, 7.1, 7.2).
use Rattle.std.specs.Prelude.{ℕ, pos, ◌*◌, ◌*ℤ◌, nat_lt, bit_and, bit_or, bit_xor, int_lt}
use Rattle.std.specs.Int.{cast_signed, w32, w64}
use Rattle.rv64_alu.specs.declared.alu.AluOp.{AluOp}
use Rattle.rv64_alu.specs.declared.alu.AluOp.TheVariants.{Add, Sub, Sll, Slt, Sltu, Xor, Srl, Sra, Or, And, Mul, Mulh, Mulhsu, Mulhu, Div, Divu, Rem, Remu, Word}
use Rattle.rv64_alu.specs.declared.word.WordOp.{WordOp}
use Rattle.rv64_alu.specs.declared.word.WordOp.TheVariants as words
use Rattle.rv64_alu.specs.Functions.{low_sum, divided, divided_signed, high, left_over, left_over_signed, multiplied, shifted_left, shifted_right, shifted_right_signed, subtracted}
use Rattle.rv64_alu.specs.Words.{as_register, extended, low_word}

-- ---- operations whose names end in `w`, before the sign-extension

abbrev pub computed_word : WordOp → (a b : ℕ) → ℕ
computed_word words.Add a b = low_sum w32 a b
computed_word words.Sub a b = subtracted w32 a b
computed_word words.Sll a b = shifted_left w32 a b
computed_word words.Srl a b = shifted_right w32 a b
computed_word words.Sra a b = shifted_right_signed w32 a b
computed_word words.Mul a b = multiplied w32 a b
computed_word words.Div a b = divided_signed w32 a b
computed_word words.Divu a b = divided w32 a b
computed_word words.Rem a b = left_over_signed w32 a b
computed_word words.Remu a b = left_over w32 a b

-- ---- all operations

-- What an operation makes of two values.
abbrev pub computed : AluOp → (a b : ℕ) → ℕ
computed Add a b = low_sum w64 a b
computed Sub a b = subtracted w64 a b
computed Sll a b = shifted_left w64 a b
computed Slt a b = as_register (int_lt (cast_signed w64 a) (cast_signed w64 b))
computed Sltu a b = as_register (nat_lt a b)
computed Xor a b = bit_xor a b
computed Srl a b = shifted_right w64 a b
computed Sra a b = shifted_right_signed w64 a b
computed Or a b = bit_or a b
computed And a b = bit_and a b
computed Mul a b = multiplied w64 a b
computed Mulh a b = high (cast_signed w64 a *ℤ cast_signed w64 b)
computed Mulhsu a b = high (cast_signed w64 a *ℤ pos b)
computed Mulhu a b = high (pos (a * b))
computed Div a b = divided_signed w64 a b
computed Divu a b = divided w64 a b
computed Rem a b = left_over_signed w64 a b
computed Remu a b = left_over w64 a b
computed (Word op) a b = extended (computed_word op (low_word a) (low_word b))
