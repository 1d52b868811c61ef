-- Registers of 8 bytes, and their low 4 bytes (unprivileged ISA 20191213, 2.1, 5.1).
use Rattle.std.specs.Prelude.{ℕ, ◌%◌, ◌^◌, Bool, if◌then◌else◌}
use Rattle.std.specs.Int.{Width, cast_signed, cast_unsigned, w32, w64}

-- the number of bits of 4 bytes, or of 8
abbrev pub bit_count : Width → ℕ
bit_count w32 = 32
bit_count w = 64

-- the low 4 bytes of a register
abbrev pub low_word : ℕ → ℕ
low_word a = a % 2 ^ 32

-- 4 bytes, sign-extended to 8
abbrev pub extended : ℕ → ℕ
extended n = cast_unsigned w64 (cast_signed w32 n)

-- 1 if a comparison holds, else 0
abbrev pub as_register : Bool → ℕ
as_register holds = if holds then 1 else 0
