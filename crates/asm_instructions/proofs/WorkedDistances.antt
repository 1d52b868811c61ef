-- Worked distances, computed from the definitions: what AUIPC gives and the low part add up to the symbol.
use Rattle.std.proofs.Common.{◌≡◌, ℕ, ◌+◌, ◌%◌, ◌^◌, None, refl}
use Rattle.asm_expressions.specs.Parts.{high_part, low_part}
use Rattle.rv64_alu.specs.Immediates.{auipc}
use Rattle.asm_instructions.specs.Pcrel.{near_distance}
use Rattle.asm_instructions.specs.Ranges.{distance}

abbrev both_parts : (here to : ℕ) → ℕ
both_parts here to = (auipc here (high_part (distance here to)) + low_part (distance here to)) % 2 ^ 64

-- ---- from 0x80001000

itself : both_parts 2147487744 2147487744 ≡ 2147487744
itself = refl

last_without_carry : both_parts 2147487744 2147489791 ≡ 2147489791
last_without_carry = refl

first_with_carry : both_parts 2147487744 2147489792 ≡ 2147489792
first_with_carry = refl

below : both_parts 2147487744 2147485695 ≡ 2147485695
below = refl

last_above : both_parts 2147487744 4294969343 ≡ 4294969343
last_above = refl

last_below : both_parts 2147487744 2048 ≡ 2048
last_below = refl

too_far_above : near_distance 2147487744 4294969344 ≡ None
too_far_above = refl

too_far_below : near_distance 2147487744 2047 ≡ None
too_far_below = refl
