-- The System Reset extension (SBI 10): its id and its function.
use Rattle.std.specs.Prelude.{ℕ, List, [], ◌∷◌, slice_index}
use Rattle.sbi_abi.specs.declared.call.Regs.{Regs}
use Rattle.sbi_abi.specs.declared.call.Call.{Call}
use Rattle.sbi_abi.specs.declared.call.Call.TheVariants.{Srst}
use Rattle.sbi_abi.specs.declared.call.srst.SrstCall.TheVariants.{SystemReset}
use Rattle.sbi_abi.specs.ResetTypes.{reset_of}

abbrev pub srst_id : ℕ
srst_id = 0x53525354

-- The function listing (SBI 10).
abbrev pub srst_listing : Regs → List (ℕ × Call)
srst_listing regs = (0, Srst (SystemReset (reset_of (slice_index regs.a 0) (slice_index regs.a 1)))) ∷ []
