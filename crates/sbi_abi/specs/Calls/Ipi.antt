-- The s-mode IPI extension (SBI 7): its id and its function.
use Rattle.std.specs.Prelude.{ℕ, List, [], ◌∷◌, slice_index}
use Rattle.sbi_abi.specs.declared.call.Regs.{Regs}
use Rattle.sbi_abi.specs.declared.call.Call.{Call}
use Rattle.sbi_abi.specs.declared.call.Call.TheVariants.{Ipi}
use Rattle.sbi_abi.specs.declared.call.ipi.IpiCall.TheVariants.{SendIpi}

abbrev pub ipi_id : ℕ
ipi_id = 0x735049

-- The function listing (SBI 7).
abbrev pub ipi_listing : Regs → List (ℕ × Call)
ipi_listing regs = (0, Ipi (SendIpi (slice_index regs.a 0) (slice_index regs.a 1))) ∷ []
