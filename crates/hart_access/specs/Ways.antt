-- How an access gets its physical address, from the memory, satp and the TLB. The memory is a function from an address
-- to the word there, and the TLB a function from an address to the entry hit. (Privileged 4.1.11, 4.2.1, 4.3.2, 4.4,
-- 4.5.)
use Rattle.std.specs.Prelude.{ℕ, ◌+◌, ◌-◌, ◌%◌, not, ◌==◌, if◌then◌else◌, Option, Some, None, is_some, Result, Ok, Err}
use Rattle.sv39.specs.declared.cause.Cause.{Cause}
use Rattle.sv39.specs.declared.cause.Kind.{Kind}
use Rattle.sv39.specs.declared.page.Leaf.{Leaf}
use Rattle.sv39.specs.Causes.{access_fault, misaligned, page_fault}
use Rattle.sv39.specs.Leaves.{allows}
use Rattle.sv39.specs.Maps.{maps}
use Rattle.sv39.specs.Satp.{asid_of, is_valid, translates}
use Rattle.tlb_model.specs.declared.entry.Address.{Address}
use Rattle.tlb_model.specs.Entries.{Entry}
use Rattle.hart_access.specs.declared.way.Way.{Way}
use Rattle.hart_access.specs.declared.way.Way.TheVariants.{Plain, Hit, Fill, Fault}

-- A matching entry decides. If there is none, the page tables decide: their leaf is filled with satp's ASID, and a walk
-- that faults fills nothing (Privileged 4.2.1, 4.3.2; that a matching entry always decides: profile).
abbrev pub way_by : (hit : Option Entry) → (asid : ℕ) → (walked : Result Leaf Cause) → Way
way_by (Some entry) asid walked = Hit entry
way_by None asid (Ok leaf) = Fill (record { leaf = leaf; asid = asid })
way_by None asid (Err cause) = Fault cause

-- The order of the checks: alignment to 8 comes first (profile). If satp's MODE is Bare, the physical address is the
-- address itself. If it is a paging mode, an address that isn't valid by it is a page fault (Privileged 4.1.11, 4.4.1,
-- 4.5.1).
abbrev pub way : (memory : ℕ → Option ℕ) → (satp : ℕ) → (tlb : Address → Option Entry) → (va : ℕ) → Kind → Way
way memory satp tlb va kind =
    if not (va % 8 == 0) then Fault (misaligned kind)
    else if not (translates satp) then Plain
    else if not (is_valid satp va) then Fault (page_fault kind)
    else way_by (tlb (record { va = va; asid = asid_of satp })) (asid_of satp) (maps memory satp va kind)

-- the entry that translates the address, hit or filled
abbrev pub used_by : Way → Option Entry
used_by Plain = None
used_by (Hit entry) = Some entry
used_by (Fill entry) = Some entry
used_by (Fault cause) = None

-- the entry that is filled
abbrev pub fill_by : Way → Option Entry
fill_by Plain = None
fill_by (Hit entry) = None
fill_by (Fill entry) = Some entry
fill_by (Fault cause) = None

-- The physical address of a virtual address in the leaf's page (Privileged 4.3.2).
abbrev pub phys_in : Leaf → (va : ℕ) → ℕ
phys_in leaf va = leaf.pa + (va - leaf.page)

-- The physical address by the entry used; without one it is the address itself.
abbrev pub phys_at : Option Entry → (va : ℕ) → ℕ
phys_at None va = va
phys_at (Some entry) va = phys_in entry.leaf va

-- The physical address by a leaf; a page fault if the leaf doesn't allow the access (Privileged 4.3.2).
abbrev pub translated : Leaf → (va : ℕ) → Kind → Result ℕ Cause
translated leaf va kind = if allows kind leaf then Ok (phys_in leaf va) else Err (page_fault kind)

-- The physical address, or why the translation fails.
abbrev pub phys_by : Way → (va : ℕ) → Kind → Result ℕ Cause
phys_by Plain va kind = Ok va
phys_by (Hit entry) va kind = translated entry.leaf va kind
phys_by (Fill entry) va kind = translated entry.leaf va kind
phys_by (Fault cause) va kind = Err cause

-- A physical address outside the RAM is an access fault (Privileged 3.6.1).
abbrev pub in_memory : (memory : ℕ → Option ℕ) → Kind → Result ℕ Cause → Result ℕ Cause
in_memory memory kind (Ok pa) = if is_some (memory pa) then Ok pa else Err (access_fault kind)
in_memory memory kind (Err cause) = Err cause

-- The physical address of a word of the RAM, or why the access fails.
abbrev pub place_by : (memory : ℕ → Option ℕ) → Way → (va : ℕ) → Kind → Result ℕ Cause
place_by memory way va kind = in_memory memory kind (phys_by way va kind)
