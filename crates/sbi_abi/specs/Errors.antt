-- The numbers of errors (SBI 3, Standard SBI Errors).
use Rattle.std.specs.Prelude.{ℤ, pos, negsuc, Bool, false, ◌==◌}
use Rattle.sbi_abi.specs.declared.answer.Sbiret.{Sbiret}
use Rattle.sbi_abi.specs.declared.answer.SbiError.{SbiError}
use Rattle.sbi_abi.specs.declared.answer.SbiError.TheVariants.{Failed, NotSupported, InvalidParam, Denied, InvalidAddress, AlreadyAvailable, AlreadyStarted, AlreadyStopped}

-- The number of each error, below 0 (SBI 3): `negsuc n` is -(n + 1).
abbrev pub error_number : SbiError → ℤ
error_number Failed = negsuc 0
error_number NotSupported = negsuc 1
error_number InvalidParam = negsuc 2
error_number Denied = negsuc 3
error_number InvalidAddress = negsuc 4
error_number AlreadyAvailable = negsuc 5
error_number AlreadyStarted = negsuc 6
error_number AlreadyStopped = negsuc 7

-- whether a number is 0
abbrev pub is_zero : ℤ → Bool
is_zero (pos n) = n == 0
is_zero (negsuc n) = false

-- whether a call succeeded: its error is 0
abbrev pub is_success : Sbiret → Bool
is_success answer = is_zero answer.error
