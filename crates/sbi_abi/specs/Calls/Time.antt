-- The Timer extension (SBI 6): its id and its function.
use Rattle.std.specs.Prelude.{ℕ, List, [], ◌∷◌, slice_index}
use Rattle.sbi_abi.specs.declared.call.Regs.{Regs}
use Rattle.sbi_abi.specs.declared.call.Call.{Call}
use Rattle.sbi_abi.specs.declared.call.Call.TheVariants.{Time}
use Rattle.sbi_abi.specs.declared.call.time.TimeCall.TheVariants.{SetTimer}

abbrev pub time_id : ℕ
time_id = 0x54494D45

-- The function listing (SBI 6).
abbrev pub time_listing : Regs → List (ℕ × Call)
time_listing regs = (0, Time (SetTimer (slice_index regs.a 0))) ∷ []
