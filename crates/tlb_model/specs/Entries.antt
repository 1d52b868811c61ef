-- TLB entries: the addresses that they translate, and the fences that drop them (Privileged 4.2.1).
use Rattle.std.specs.Prelude.{ℕ, ◌+◌, nat_le, nat_lt, Bool, true, false, not, ◌==◌, ◌&&◌, ◌||◌, Option, Some, None}
use Rattle.sv39.specs.declared.page.Leaf.{Leaf}
use Rattle.sv39.specs.Pages.{size}
use Rattle.tlb_model.specs.declared.entry.Address.{Address}
use Rattle.tlb_model.specs.declared.fence.Flush.{Flush}
use Rattle.tlb_model.specs.declared.fence.Flush.TheVariants.{Words, Entries}
use Rattle.tlb_model.specs.declared.fence.Range.{Range}
use Rattle.tlb_model.specs.Fences.{meets}

-- A TLB entry: a leaf of the page tables, and satp's ASID when it was found (Privileged 4.2.1).
pub record Entry : Type 0 where
  pub leaf : Leaf
  pub asid : ℕ

-- whether the leaf's page has the address
abbrev pub has_address : Leaf → ℕ → Bool
has_address leaf va = nat_le leaf.page va && nat_lt va (leaf.page + size leaf.level)

-- An entry matches an address of its page in its address space, or in any address space if it is global (Privileged
-- 4.2.1).
abbrev pub matches : Address → Entry → Bool
matches at entry = has_address entry.leaf at.va && (entry.leaf.global || (entry.asid == at.asid))

-- A fence of an address space covers entries that have its ASID and aren't global. A fence without an ASID covers
-- entries of all address spaces (Privileged 4.2.1).
abbrev pub is_in_space : Option ℕ → Entry → Bool
is_in_space None entry = true
is_in_space (Some asid) entry = not entry.leaf.global && (entry.asid == asid)

-- A fence of a range reaches pages that have an address of the range. A fence without a range reaches all pages
-- (Privileged 4.2.1; SBI 8).
abbrev pub reaches : Option Range → Leaf → Bool
reaches None leaf = true
reaches (Some range) leaf = meets range leaf.page (size leaf.level)

-- A fence covers an entry of its address space whose page it reaches. A FENCE.I covers none (Zifencei).
abbrev pub covers_entry : Flush → Entry → Bool
covers_entry Words entry = false
covers_entry (Entries fence) entry = is_in_space fence.asid entry && reaches fence.range entry.leaf
