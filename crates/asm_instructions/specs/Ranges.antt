-- Ranges of values, and how far targets are (unprivileged ISA 20191213, 2.3, 2.5; GNU as, RISC-V-Directives and -Modifiers).
use Rattle.std.specs.Prelude.{ℕ, zero, suc, ℤ, pos, neg_ℤ, ◌-ℤ◌, int_le, int_lt, ◌+◌, ◌-◌, ◌*◌, ◌%◌, ◌^◌, nat_le, nat_lt, Bool, ◌&&◌, ◌||◌, ◌==◌, if◌then◌else◌, Option, Some, None, is_some}
use Rattle.std.specs.Int.{cast_signed, trailing_zeros, w64}
use Rattle.asm_expressions.specs.Parts.{low_part, rounded}
use Rattle.rv64_alu.specs.declared.alu.AluOp.TheVariants.{Sra}
use Rattle.rv64_alu.specs.Table.{computed}

-- ---- immediates

-- a value as an immediate of 12 bits, which is signed
abbrev pub short_of : ℕ → Option ℤ
short_of value =
    if int_le (neg_ℤ (pos 2048)) (cast_signed w64 value) && int_lt (cast_signed w64 value) (pos 2048) then
    Some (cast_signed w64 value) else None

-- ---- targets

-- the distance of a target from an instruction
abbrev pub distance : (here to : ℕ) → ℕ
distance here to = (to + (2 ^ 64 - here)) % 2 ^ 64

-- whether a target is less than so many bytes away, and at an even address
abbrev pub is_within_reach : (reach here to : ℕ) → Bool
is_within_reach reach here to =
    nat_lt ((distance here to + reach) % 2 ^ 64) (2 * reach) && (distance here to % 2 == 0)

-- whether a symbol is too far away for AUIPC's 20 bits and 12 bits more
abbrev pub is_far : (here to : ℕ) → Bool
is_far here to = nat_le (2 ^ 32) ((distance here to + (2 ^ 31 + 2 ^ 11)) % 2 ^ 64)

-- the low 12 bits of a symbol's distance, as a signed number
abbrev pub far_low : (here to : ℕ) → ℤ
far_low here to = pos (rounded (distance here to) % 2 ^ 12) -ℤ pos 2048

-- what AUIPC gives on the way to a symbol: the low part of the distance is missing
abbrev pub far_base : (here to : ℕ) → ℕ
far_base here to = ((to + (2 ^ 64 - rounded (distance here to) % 2 ^ 12)) % 2 ^ 64 + 2 ^ 11) % 2 ^ 64

-- ---- `li`

-- whether a value is a signed number of 4 bytes
abbrev pub is_signed_word : ℕ → Bool
is_signed_word value = nat_lt ((value + 2 ^ 31) % 2 ^ 64) (2 ^ 32)

-- the instructions for one: ADDI, LUI, or LUI and ADDIW
abbrev pub word_parts : ℕ → ℕ
word_parts value = if is_some (short_of value) || (low_part value == 0) then 1 else 2

-- what is above the low 12 bits, as a signed number shifted right until it is odd
abbrev pub odd_upper : ℕ → ℕ
odd_upper value =
    let upper = (value + (2 ^ 64 - low_part value)) % 2 ^ 64 in
    computed Sra upper (trailing_zeros w64 upper)

-- those for any value: those for its upper part, SLLI, and ADDI if the low 12 bits aren't 0
abbrev pub li_parts : (most : ℕ) → ℕ → ℕ
li_parts zero value = word_parts value
li_parts (suc most) value =
    if is_signed_word value then word_parts value
    else li_parts most (odd_upper value) + (if low_part value == 0 then 1 else 2)

-- How many instructions the assembler writes for `li`. (Each level has 12 bits less, so the fourth is a word.)
abbrev pub li_count : ℕ → ℕ
li_count value = li_parts 3 value
