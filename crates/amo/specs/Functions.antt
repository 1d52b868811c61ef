-- What AMOs make of the old value in memory and their operand (unprivileged ISA 20191213, 8.4).
use Rattle.std.specs.Prelude.{ℕ, ◌+◌, ◌%◌, ◌^◌, min, max, bit_and, bit_or, bit_xor, int_le, Bool, if◌then◌else◌}
use Rattle.std.specs.Int.{Width, w32, cast_signed}
use Rattle.amo.specs.declared.function.AmoFunction.{AmoFunction}
use Rattle.amo.specs.declared.function.AmoFunction.TheVariants.{Swap, Add, And, Or, Xor, Min, Max, Minu, Maxu}

-- the number of bits of a value of 4 bytes, or of 8
abbrev pub width_bits : Width → ℕ
width_bits w32 = 32
width_bits w = 64

-- whether the first value is at most the second, both as signed numbers
abbrev pub signed_le : Width → (first second : ℕ) → Bool
signed_le w first second = int_le (cast_signed w first) (cast_signed w second)

-- The value that an AMO writes, by its width, from the old value and the operand (unprivileged ISA 8.4).
abbrev pub made : AmoFunction → Width → (old operand : ℕ) → ℕ
made Swap w old operand = operand
made Add w old operand = (old + operand) % 2 ^ width_bits w
made And w old operand = bit_and old operand
made Or w old operand = bit_or old operand
made Xor w old operand = bit_xor old operand
made Min w old operand = if signed_le w old operand then old else operand
made Max w old operand = if signed_le w old operand then operand else old
made Minu w old operand = min old operand
made Maxu w old operand = max old operand
