-- Suspend and reset types at the ends of their ranges, computed from the definitions.
use Rattle.std.proofs.Common.{◌≡◌, refl}
use Rattle.std.specs.Prelude.{Ok, Err}
use Rattle.sbi_abi.specs.declared.answer.SbiError.TheVariants.{NotSupported, InvalidParam}
use Rattle.sbi_abi.specs.declared.suspend.SuspendKind.TheVariants.{Retentive, NonRetentive}
use Rattle.sbi_abi.specs.declared.reset.ResetKind.TheVariants.{Shutdown, ColdReboot, WarmReboot}
use Rattle.sbi_abi.specs.ResetTypes.{reset_kind_of, reset_of}
use Rattle.sbi_abi.specs.SuspendTypes.{suspend_kind_of}

default-retentive : suspend_kind_of 0 ≡ Ok Retentive
unfolding suspend_kind_of
default-retentive = refl

first-reserved : suspend_kind_of 1 ≡ Err InvalidParam
unfolding suspend_kind_of
first-reserved = refl

last-reserved : suspend_kind_of 0x0FFFFFFF ≡ Err InvalidParam
unfolding suspend_kind_of
last-reserved = refl

first-platform : suspend_kind_of 0x10000000 ≡ Err NotSupported
unfolding suspend_kind_of
first-platform = refl

last-platform : suspend_kind_of 0x7FFFFFFF ≡ Err NotSupported
unfolding suspend_kind_of
last-platform = refl

default-non_retentive : suspend_kind_of 0x80000000 ≡ Ok NonRetentive
unfolding suspend_kind_of
default-non_retentive = refl

first-reserved_above : suspend_kind_of 0x80000001 ≡ Err InvalidParam
unfolding suspend_kind_of
first-reserved_above = refl

last-reserved_above : suspend_kind_of 0x8FFFFFFF ≡ Err InvalidParam
unfolding suspend_kind_of
last-reserved_above = refl

first-platform_above : suspend_kind_of 0x90000000 ≡ Err NotSupported
unfolding suspend_kind_of
first-platform_above = refl

last-platform_above : suspend_kind_of 0xFFFFFFFF ≡ Err NotSupported
unfolding suspend_kind_of
last-platform_above = refl

low-32-bits-alone : suspend_kind_of 0xFFFFFFFF80000000 ≡ Ok NonRetentive
unfolding suspend_kind_of
low-32-bits-alone = refl

shutdown : reset_of 0 1 ≡ Ok (record { kind = Shutdown; reason = 1 })
unfolding reset_kind_of
shutdown = refl

cold : reset_of 1 0 ≡ Ok (record { kind = ColdReboot; reason = 0 })
unfolding reset_kind_of
cold = refl

warm-by-low-bits : reset_of 0x100000002 0xFFFFFFFFE0000000 ≡ Ok (record { kind = WarmReboot; reason = 0xE0000000 })
unfolding reset_kind_of
warm-by-low-bits = refl

first-reserved_reset : reset_of 3 0 ≡ Err InvalidParam
unfolding reset_kind_of
first-reserved_reset = refl

last-reserved_reset : reset_of 0xEFFFFFFF 0 ≡ Err InvalidParam
unfolding reset_kind_of
last-reserved_reset = refl

first-vendor_reset : reset_of 0xF0000000 2 ≡ Err NotSupported
unfolding reset_kind_of
first-vendor_reset = refl

last-vendor_reset : reset_of 0xFFFFFFFF 0 ≡ Err NotSupported
unfolding reset_kind_of
last-vendor_reset = refl

first-reserved_reason : reset_of 0 2 ≡ Err InvalidParam
unfolding reset_kind_of
first-reserved_reason = refl

last-reserved_reason : reset_of 2 0xDFFFFFFF ≡ Err InvalidParam
unfolding reset_kind_of
last-reserved_reason = refl

vendor_reason : reset_of 0 0xFFFFFFFF ≡ Ok (record { kind = Shutdown; reason = 0xFFFFFFFF })
unfolding reset_kind_of
vendor_reason = refl
