-- The suspends that the suspend types name (SBI 9.4).
use Rattle.std.specs.Prelude.{ℕ, ◌%◌, ◌^◌, List, [], ◌∷◌, Result, Ok, Err, nat_le, if◌then◌else◌}
use Rattle.sbi_abi.specs.declared.answer.SbiError.{SbiError}
use Rattle.sbi_abi.specs.declared.answer.SbiError.TheVariants.{NotSupported, InvalidParam}
use Rattle.sbi_abi.specs.declared.suspend.SuspendKind.{SuspendKind}
use Rattle.sbi_abi.specs.declared.suspend.SuspendKind.TheVariants.{Retentive, NonRetentive}

-- the item that a table of ranges has for the number n, or `above` if n is above them all; a range is given by its last
-- number
abbrev pub ranged : {A : Type 0} → ℕ → A → List (ℕ × A) → A
ranged n above [] = above
ranged n above (row ∷ rows) = if nat_le n row.0 then row.1 else ranged n above rows

-- The ranges of suspend types, each by its last type (SBI 9.4): default retentive, reserved, platform-specific
-- retentive, default non-retentive, reserved. A reserved type is an invalid parameter, and a platform's isn't supported
-- (profile).
abbrev pub suspend_ranges : List (ℕ × Result SuspendKind SbiError)
suspend_ranges =
    (0, Ok Retentive)
    ∷ (0x0FFFFFFF, Err InvalidParam)
    ∷ (0x7FFFFFFF, Err NotSupported)
    ∷ (0x80000000, Ok NonRetentive)
    ∷ (0x8FFFFFFF, Err InvalidParam)
    ∷ []

-- The kind of suspend that the low 32 bits of a type name; the upper bits are ignored (profile). Types above the last
-- range are a platform's non-retentive ones (SBI 9.4).
unfoldable pub suspend_kind_of : ℕ → Result SuspendKind SbiError
suspend_kind_of type = ranged (type % 2 ^ 32) (Err NotSupported) suspend_ranges
