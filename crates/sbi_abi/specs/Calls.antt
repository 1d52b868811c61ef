-- The calls by extension id (EID, a7) and function id (FID, a6), one file for each extension.
use Rattle.std.specs.Prelude.{ℕ, Bool, List, [], ◌∷◌, ◌==◌, if◌then◌else◌}
use Rattle.std.specs.List.{list_any}
use Rattle.sbi_abi.specs.declared.call.Regs.{Regs}
use Rattle.sbi_abi.specs.declared.call.Call.{Call}
use Rattle.sbi_abi.specs.declared.call.Call.TheVariants.{Unsupported}
use Rattle.sbi_abi.specs.Calls.Base.{base_id, base_listing}
use Rattle.sbi_abi.specs.Calls.Hsm.{hsm_id, hsm_listing}
use Rattle.sbi_abi.specs.Calls.Ipi.{ipi_id, ipi_listing}
use Rattle.sbi_abi.specs.Calls.Rfence.{rfence_id, rfence_listing}
use Rattle.sbi_abi.specs.Calls.Srst.{srst_id, srst_listing}
use Rattle.sbi_abi.specs.Calls.Time.{time_id, time_listing}
pub mod Base
pub mod Hsm
pub mod Ipi
pub mod Rfence
pub mod Srst
pub mod Time

-- the item that a listing has at the number n, or `other` if it has none
abbrev pub named : {A : Type 0} → ℕ → A → List (ℕ × A) → A
named n other [] = other
named n other (row ∷ rows) = if n == row.0 then row.1 else named n other rows

-- The extensions by their ids, each with its function listing.
abbrev pub extensions : List (ℕ × (Regs → List (ℕ × Call)))
extensions =
    (base_id, base_listing)
    ∷ (time_id, time_listing)
    ∷ (ipi_id, ipi_listing)
    ∷ (rfence_id, rfence_listing)
    ∷ (hsm_id, hsm_listing)
    ∷ (srst_id, srst_listing)
    ∷ []

-- The call that the registers name; an EID or FID that isn't implemented is not supported (SBI 3).
unfoldable pub call_of : Regs → Call
call_of regs = named regs.fid Unsupported (named regs.eid (λ regs. []) extensions regs)

-- The extension ids for which probing answers 1 (SBI 4.4).
abbrev pub is_extension_id : ℕ → Bool
is_extension_id eid = list_any (λ extension. extension.0 == eid) extensions
