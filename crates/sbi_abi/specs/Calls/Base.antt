-- The Base extension (SBI 4): its id and its functions.
use Rattle.std.specs.Prelude.{ℕ, List, [], ◌∷◌, slice_index}
use Rattle.sbi_abi.specs.declared.call.Regs.{Regs}
use Rattle.sbi_abi.specs.declared.call.Call.{Call}
use Rattle.sbi_abi.specs.declared.call.Call.TheVariants.{Base}
use Rattle.sbi_abi.specs.declared.call.base.BaseCall.TheVariants.{GetSpecVersion, GetImplId, GetImplVersion, ProbeExtension, GetMvendorid, GetMarchid, GetMimpid}

abbrev pub base_id : ℕ
base_id = 0x10

-- The function listing (SBI 4).
abbrev pub base_listing : Regs → List (ℕ × Call)
base_listing regs =
    (0, Base GetSpecVersion)
    ∷ (1, Base GetImplId)
    ∷ (2, Base GetImplVersion)
    ∷ (3, Base (ProbeExtension (slice_index regs.a 0)))
    ∷ (4, Base GetMvendorid)
    ∷ (5, Base GetMarchid)
    ∷ (6, Base GetMimpid)
    ∷ []
