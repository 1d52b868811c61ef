-- The supervisor address translation and protection register (Privileged 4.1.11).
use Rattle.std.specs.Prelude.{◌≡◌, ℕ, ◌+◌, ◌*◌, ◌/◌, ◌%◌, ◌^◌, Bool, false, ◌==◌, ◌&&◌, if◌then◌else◌, Option, Some, None, is_some, unwrap_or}
use Rattle.sv39.specs.declared.page.TheConstants.{PAGE_BYTES}
use Rattle.sv39.specs.declared.paging.Paging.{Paging}
use Rattle.sv39.specs.declared.paging.Paging.TheVariants.{Sv39}
use Rattle.sv39.specs.declared.paging.Spaces.{Spaces}
use Rattle.sv39.specs.declared.paging.TheConstants.{ASID_BITS}
use Rattle.sv39.specs.declared.satp.TheConstants.{MODE_BIT, PPN_BITS}
use Rattle.sv39.specs.Paging.{cut_asid, is_valid_by, named, supports}

-- MODE, bits 63 to 60: 0 is Bare, 8 is Sv39, 9 is Sv48 (Privileged 4.1.11).
abbrev pub mode_of : ℕ → ℕ
mode_of satp = satp / 2 ^ MODE_BIT % 2 ^ 4

-- ASID, bits 59 to 44: the address space (Privileged 4.1.11).
abbrev pub asid_of : ℕ → ℕ
asid_of satp = satp / 2 ^ PPN_BITS % 2 ^ ASID_BITS

-- PPN, bits 43 to 0: the physical page number of the root page table (Privileged 4.1.11).
abbrev pub root_of : ℕ → ℕ
root_of satp = satp % 2 ^ PPN_BITS

-- the physical address of the root page table
abbrev pub root_address : ℕ → ℕ
root_address satp = PAGE_BYTES * root_of satp

-- Whether addresses are translated: MODE is a paging mode (Privileged 4.1.11).
abbrev pub translates : ℕ → Bool
translates satp = is_some (named (mode_of satp))

-- The paging mode, if addresses are translated; otherwise it has no meaning.
abbrev pub paging_of : ℕ → Paging
paging_of satp = unwrap_or (named (mode_of satp)) Sv39

-- Whether a virtual address is valid by satp's mode (Privileged 4.4.1, 4.5.1).
abbrev pub is_valid : (satp va : ℕ) → Bool
is_valid satp va = is_valid_by (paging_of satp) va

-- The value with the bits of its ASID above ASIDLEN cleared (Privileged 4.1.11).
abbrev pub kept_of : Spaces → ℕ → ℕ
kept_of spaces value =
    value / 2 ^ MODE_BIT * 2 ^ MODE_BIT + cut_asid spaces (asid_of value) * 2 ^ PPN_BITS + root_of value

-- Whether a write sets a paging mode: its MODE is one that the board implements.
abbrev pub is_stored : Spaces → ℕ → Bool
is_stored spaces value = translates value && supports spaces (paging_of value)

-- The value that a write gives satp. Bare gives 0, whatever the other fields (profile). A mode that the board
-- implements gives the value without the ASID bits above ASIDLEN. None: a write of another MODE has no effect
-- (Privileged 4.1.11; that Sv57 isn't supported: profile).
abbrev pub satp_of_write : Spaces → (value : ℕ) → Option ℕ
satp_of_write spaces value =
    if mode_of value == 0 then Some 0
    else if is_stored spaces value then Some (kept_of spaces value)
    else None

-- satp after a write.
abbrev pub satp_written : Spaces → (satp value : ℕ) → ℕ
satp_written spaces satp value = unwrap_or (satp_of_write spaces value) satp

-- A value is 0, or its MODE is a paging mode.
abbrev pub IsSatp : ℕ → Type 0
IsSatp satp = translates satp ≡ false → satp ≡ 0
