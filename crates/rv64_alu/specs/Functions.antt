-- What operations make of two numbers of 4 or 8 bytes, by their width. A signed number is one by its two's complement.
use Rattle.std.specs.Prelude.{ℕ, ℤ, ◌+◌, ◌-◌, ◌*◌, ◌/◌, ◌%◌, ◌^◌, ◌==◌, if◌then◌else◌}
use Rattle.std.specs.Int.{Width, cast_signed, cast_unsigned, int_shr, w128}
use Rattle.std.specs.Int.RustNames.{int_div, int_rem}
use Rattle.rv64_alu.specs.Words.{bit_count}

-- ---- sums, differences and products: their low bits (unprivileged ISA 2.4, 5.2, 7.1)

abbrev pub low_sum : Width → (a b : ℕ) → ℕ
low_sum w a b = (a + b) % 2 ^ bit_count w

abbrev pub subtracted : Width → (a b : ℕ) → ℕ
subtracted w a b = (a + (2 ^ bit_count w - b)) % 2 ^ bit_count w

abbrev pub multiplied : Width → (a b : ℕ) → ℕ
multiplied w a b = a * b % 2 ^ bit_count w

-- The high 8 bytes of a product of 16 bytes (unprivileged ISA 7.1).
abbrev pub high : ℤ → ℕ
high product = cast_unsigned w128 product / 2 ^ 64

-- ---- shifts, by the low 5 or 6 bits of the second number (unprivileged ISA 2.4, 5.2)

abbrev pub shifted_left : Width → (a b : ℕ) → ℕ
shifted_left w a b = a * 2 ^ (b % bit_count w) % 2 ^ bit_count w

abbrev pub shifted_right : Width → (a b : ℕ) → ℕ
shifted_right w a b = a / 2 ^ (b % bit_count w)

-- copies of the sign come in
abbrev pub shifted_right_signed : Width → (a b : ℕ) → ℕ
shifted_right_signed w a b = cast_unsigned w (int_shr (cast_signed w a) (b % bit_count w))

-- ---- quotients, rounded towards zero, and remainders, with the sign of the first number (unprivileged ISA 7.2, table 7.1)

-- by 0 all bits are 1
abbrev pub divided : Width → (a b : ℕ) → ℕ
divided w a b = if b == 0 then 2 ^ bit_count w - 1 else a / b

-- by 0 the first number
abbrev pub left_over : Width → (a b : ℕ) → ℕ
left_over w a b = if b == 0 then a else a % b

-- By 0 it is -1. The smallest number by -1 is itself: the quotient is above the largest number by one, and wraps.
abbrev pub divided_signed : Width → (a b : ℕ) → ℕ
divided_signed w a b =
    if b == 0 then 2 ^ bit_count w - 1 else cast_unsigned w (int_div (cast_signed w a) (cast_signed w b))

-- By 0 it is the first number, and 0 for the smallest number by -1.
abbrev pub left_over_signed : Width → (a b : ℕ) → ℕ
left_over_signed w a b = if b == 0 then a else cast_unsigned w (int_rem (cast_signed w a) (cast_signed w b))
