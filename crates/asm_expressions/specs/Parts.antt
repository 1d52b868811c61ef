-- Parts of values: `%hi(..)` and `%lo(..)` (GNU as, RISC-V-Modifiers).
use Rattle.std.specs.Prelude.{ℕ, ◌-◌, ◌+◌, ◌/◌, ◌%◌, ◌^◌, nat_lt, Bool, if◌then◌else◌, List, codes, Option, Some, None}
use Rattle.std.specs.Str.{bytes_eq}
use Rattle.asm_expressions.specs.declared.parts.Part.{Part}
use Rattle.asm_expressions.specs.declared.parts.Part.TheVariants.{Whole, High, Low}

-- a value and half of what the low 12 bits reach
abbrev pub rounded : ℕ → ℕ
rounded value = (value + 2 ^ 11) % 2 ^ 64

-- the low 12 bits as a signed number, in 8 bytes
abbrev pub low_part : ℕ → ℕ
low_part value = (rounded value % 2 ^ 12 + (2 ^ 64 - 2 ^ 11)) % 2 ^ 64

-- the 20 bits above them; one more where the low part is negative
abbrev pub high_part : ℕ → ℕ
high_part value = rounded value / 2 ^ 12 % 2 ^ 20

-- whether LUI and a low part give the value: LUI gives a signed number of 4 bytes
abbrev pub has_high_part : ℕ → Bool
has_high_part value = nat_lt ((value + (2 ^ 31 + 2 ^ 11)) % 2 ^ 64) (2 ^ 32)

abbrev pub part_of : Part → ℕ → Option ℕ
part_of Whole value = Some value
part_of High value = if has_high_part value then Some (high_part value) else None
part_of Low value = Some (low_part value)

abbrev pub part_named : List ℕ → Option Part
part_named name =
    if bytes_eq name (codes "hi") then Some High else (if bytes_eq name (codes "lo") then Some Low else None)
