-- The Hart State Management extension (SBI 9): its id and its functions.
use Rattle.std.specs.Prelude.{ℕ, List, [], ◌∷◌, slice_index}
use Rattle.sbi_abi.specs.declared.call.Regs.{Regs}
use Rattle.sbi_abi.specs.declared.call.Call.{Call}
use Rattle.sbi_abi.specs.declared.call.Call.TheVariants.{Hsm}
use Rattle.sbi_abi.specs.declared.call.hsm.HsmCall.TheVariants.{HartStart, HartStop, HartGetStatus, HartSuspend}
use Rattle.sbi_abi.specs.SuspendTypes.{suspend_kind_of}

abbrev pub hsm_id : ℕ
hsm_id = 0x48534D

-- The function listing (SBI 9).
abbrev pub hsm_listing : Regs → List (ℕ × Call)
hsm_listing regs =
    (0, Hsm (HartStart (slice_index regs.a 0) (slice_index regs.a 1) (slice_index regs.a 2)))
    ∷ (1, Hsm HartStop)
    ∷ (2, Hsm (HartGetStatus (slice_index regs.a 0)))
    ∷ (3, Hsm (HartSuspend (suspend_kind_of (slice_index regs.a 0)) (slice_index regs.a 1) (slice_index regs.a 2)))
    ∷ []
