-- The RFENCE extension (SBI 8): its id and its functions.
use Rattle.std.specs.Prelude.{ℕ, List, [], ◌∷◌, slice_index}
use Rattle.sbi_abi.specs.declared.call.Regs.{Regs}
use Rattle.sbi_abi.specs.declared.call.Call.{Call}
use Rattle.sbi_abi.specs.declared.call.Call.TheVariants.{Rfence}
use Rattle.sbi_abi.specs.declared.call.rfence.RfenceCall.TheVariants.{RemoteFenceI, RemoteSfenceVma, RemoteSfenceVmaAsid}

abbrev pub rfence_id : ℕ
rfence_id = 0x52464E43

-- The function listing (SBI 8). The functions 3 to 6 are the hypervisor's, and aren't implemented (profile).
abbrev pub rfence_listing : Regs → List (ℕ × Call)
rfence_listing regs =
    (0, Rfence (RemoteFenceI (slice_index regs.a 0) (slice_index regs.a 1)))
    ∷ (
      1,
      Rfence (RemoteSfenceVma (slice_index regs.a 0) (slice_index regs.a 1) (slice_index regs.a 2)
          (slice_index regs.a 3)),
    )
    ∷ (
      2,
      Rfence (RemoteSfenceVmaAsid (slice_index regs.a 0) (slice_index regs.a 1) (slice_index regs.a 2)
          (slice_index regs.a 3) (slice_index regs.a 4)),
    )
    ∷ []
