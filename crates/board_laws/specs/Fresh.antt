-- The answers that an access can get after a fence (Privileged 4.2.1; SBI 8; Zifencei).
use Rattle.std.specs.Prelude.{◌≡◌, ℕ, ◌<◌, ◌≤◌, Bool, true, not, ◌==◌, ◌&&◌, List, Option, Some, None, Ok}
use Rattle.sv39.specs.declared.page.Leaf.{Leaf}
use Rattle.sv39.specs.declared.page.Level.TheVariants.{Kilo}
use Rattle.sv39.specs.Maps.{maps}
use Rattle.sv39.specs.Pages.{page_of, size}
use Rattle.sv39.specs.Satp.{asid_of}
use Rattle.tlb_model.specs.Entries.{Entry}
use Rattle.tlb_model.specs.declared.fence.Fence.{Fence}
use Rattle.tlb_model.specs.declared.fence.Flush.TheVariants.{Words, Entries}
use Rattle.tlb_model.specs.declared.fence.Range.{Range}
use Rattle.tlb_model.specs.Fences.{meets}
use Rattle.hart_access.specs.AccessKinds.{kind_of}
use Rattle.board_core.specs.Opening.{Opening}
use Rattle.board_terms.specs.declared.op.Actor.TheVariants.{Hart}
use Rattle.board_terms.specs.declared.op.Op.TheVariants.{Fetch}
use Rattle.board_terms.specs.declared.reply.Reply.TheVariants.{Value}
use Rattle.board_core.specs.History.{Event, Reach, access_of}
use Rattle.board_core.specs.Memory.{memory, satp}
use Rattle.board_laws.specs.Fences.{Reached}
use Rattle.board_laws.specs.Places.{Accesses, IsAtPlace, past_at}

-- Whether a fence's range covers a virtual address: the address's page of 4 KiB has an address of the range (Privileged
-- 4.2.1; SBI 8).
abbrev pub is_of_page : Option Range → (va : ℕ) → Bool
is_of_page None va = true
is_of_page (Some range) va = meets range (page_of Kilo va) (size Kilo)

-- Whether a fence of an address space covers a translation of a hart with this satp: the ASID is satp's, and the
-- translation isn't global. A fence of all address spaces covers each (Privileged 4.2.1).
abbrev pub is_of_space : Option ℕ → (satp : ℕ) → Leaf → Bool
is_of_space None satp leaf = true
is_of_space (Some asid) satp leaf = not leaf.global && (asid_of satp == asid)

-- ---- translations

-- Hart t makes this access at place p, after the fence of place a had reached the hart. The fence covers the address
-- and, if the access used a translation, that translation.
pub record FencedAccess (o : Opening) (past : List Event) (t a p : ℕ) (fence : Fence) (reach : Reach) : Type 0 where
  pub event : Event
  pub happened : IsAtPlace o past p event
  pub by_hart : event.actor ≡ Hart t
  pub access : access_of event.op ≡ Some reach
  pub reached : Reached o (past_at o past p) t a (Entries fence)
  pub page : is_of_page fence.range reach.va ≡ true
  pub space : (entry : Entry) → event.translation ≡ Some entry
      → is_of_space fence.asid (satp o (past_at o past p) t) entry.leaf ≡ true

-- At some place after a and not after p, hart t made an access. By the memory and the hart's satp at that place, the
-- page tables give an access of that kind to this address the leaf.
pub record GivenAfter (o : Opening) (past : List Event) (t a p va : ℕ) (leaf : Leaf) : Type 0 where
  pub place : ℕ
  pub after : a < place
  pub upto : place ≤ p
  pub there : Reach
  pub made : Accesses o past place t there
  pub gives : maps (memory o (past_at o past place)) (satp o (past_at o past place) t) va (kind_of there.access)
      ≡ Ok leaf

-- ---- fetched words

-- Hart t fetches this value from this virtual address at place p, after a FENCE.I of place a had reached the hart.
pub record FencedFetch (o : Opening) (past : List Event) (t a p va value : ℕ) : Type 0 where
  pub event : Event
  pub happened : IsAtPlace o past p event
  pub by_hart : event.actor ≡ Hart t
  pub fetch : event.op ≡ Fetch va
  pub answer : event.reply ≡ Value value
  pub reached : Reached o (past_at o past p) t a Words

-- At some place after a and not after p, the memory had this word at the physical address.
pub record StoodAfter (o : Opening) (past : List Event) (a p pa word : ℕ) : Type 0 where
  pub place : ℕ
  pub after : a < place
  pub upto : place ≤ p
  pub stood : memory o (past_at o past place) pa ≡ Some word
