-- The resets that the reset types and reasons name (SBI 10.1).
use Rattle.std.specs.Prelude.{ℕ, ◌%◌, ◌^◌, Bool, ◌||◌, List, [], ◌∷◌, Result, Ok, Err, nat_le, if◌then◌else◌}
use Rattle.sbi_abi.specs.declared.answer.SbiError.{SbiError}
use Rattle.sbi_abi.specs.declared.answer.SbiError.TheVariants.{NotSupported, InvalidParam}
use Rattle.sbi_abi.specs.declared.reset.Reset.{Reset}
use Rattle.sbi_abi.specs.declared.reset.ResetKind.{ResetKind}
use Rattle.sbi_abi.specs.declared.reset.ResetKind.TheVariants.{Shutdown, ColdReboot, WarmReboot}
use Rattle.sbi_abi.specs.SuspendTypes.{ranged}

-- The reset type of each kind of reset (SBI 10.1).
abbrev pub reset_kind_number : ResetKind → ℕ
reset_kind_number Shutdown = 0
reset_kind_number ColdReboot = 1
reset_kind_number WarmReboot = 2

-- The ranges of reset types, each by its last type (SBI 10.1). A reserved type is an invalid parameter (profile).
abbrev pub reset_ranges : List (ℕ × Result ResetKind SbiError)
reset_ranges =
    (0, Ok Shutdown)
    ∷ (1, Ok ColdReboot)
    ∷ (2, Ok WarmReboot)
    ∷ (0xEFFFFFFF, Err InvalidParam)
    ∷ []

-- The kind of reset that the low 32 bits of a type name; the upper bits are ignored (profile). Types above the last
-- range are a vendor's (SBI 10.1), and aren't supported (profile).
unfoldable pub reset_kind_of : ℕ → Result ResetKind SbiError
reset_kind_of type = ranged (type % 2 ^ 32) (Err NotSupported) reset_ranges

-- Whether a reason isn't reserved: 0, 1, those of the SBI implementation from 0xE0000000 on, and those of a vendor or a
-- platform from 0xF0000000 on (SBI 10.1).
abbrev pub is_reason : ℕ → Bool
is_reason reason = nat_le reason 1 || nat_le 0xE0000000 reason

-- The type is checked first, then the reason (profile). A reserved reason is an invalid parameter.
abbrev pub with_reason : Result ResetKind SbiError → ℕ → Result Reset SbiError
with_reason (Err error) reason = Err error
with_reason (Ok kind) reason = if is_reason reason then Ok
    (record { kind = kind; reason = reason }) else Err InvalidParam

-- The reset that a type and a reason name by their low 32 bits, or the error (SBI 10.1).
abbrev pub reset_of : (type reason : ℕ) → Result Reset SbiError
reset_of type reason = with_reason (reset_kind_of type) (reason % 2 ^ 32)
