-- Accesses of this board by entries that the page tables no longer give (Privileged 4.2.1).
use Rattle.std.specs.Prelude.{◌≡◌, ℕ, ◌≤◌, true, List, Option, Some, Ok}
use Rattle.sbi_abi.specs.declared.call.Regs.{Regs}
use Rattle.sbi_abi.specs.Calls.{call_of}
use Rattle.sv39.specs.declared.cause.Kind.{Kind}
use Rattle.sv39.specs.Maps.{maps}
use Rattle.tlb_model.specs.declared.fence.Fence.{Fence}
use Rattle.tlb_model.specs.declared.fence.Flush.TheVariants.{Entries}
use Rattle.tlb_model.specs.Entries.{Entry}
use Rattle.hart_access.specs.AccessKinds.{kind_of}
use Rattle.hart_access.specs.Ways.{translated}
use Rattle.board_terms.specs.declared.op.Actor.TheVariants.{Hart}
use Rattle.board_terms.specs.declared.op.Op.TheVariants.{Ecall}
use Rattle.board_terms.specs.declared.reply.Reply.TheVariants.{Waiting}
use Rattle.board_core.specs.Fences.{Remote, remote_of}
use Rattle.board_core.specs.History.{Event, Reach}
use Rattle.board_core.specs.Memory.{memory, satp}
use Rattle.board_core.specs.Opening.{Opening, place_after}
use Rattle.board_laws.specs.Fences.{Succeeded}
use Rattle.board_laws.specs.Fresh.{is_of_page, is_of_space}
use Rattle.board_laws.specs.Places.{IsAtPlace, past_at}
use Rattle.any_tlb.specs.Steady.{phys_of}

-- By this satp, the page tables in a memory give an access of this kind to the address another physical address, or
-- another fault, than the entry does.
abbrev pub IsOtherThan : (memory : ℕ → Option ℕ) → (satp va : ℕ) → Kind → Entry → Type 0
IsOtherThan memory satp va kind entry = translated entry.leaf va kind ≡ phys_of (maps memory satp va kind) va → ⊥

-- The event, an access by hart h, is stale: the entry that it used gave it another physical address or fault than the
-- page tables give.
pub record IsStale (o : Opening) (past : List Event) (h : ℕ) (event : Event) (reach : Reach) : Type 0 where
  pub entry : Entry
  pub uses : event.translation ≡ Some entry
  pub other : IsOtherThan (memory o past) (satp o past h) reach.va (kind_of reach.access) entry

-- At this place hart x asked for a remote fence of translations, by a call that was accepted (SBI 8).
pub record WasAsked (o : Opening) (past : List Event) (x place : ℕ) (fence : Fence) : Type 0 where
  pub event : Event
  pub happened : IsAtPlace o past place event
  pub by_hart : event.actor ≡ Hart x
  pub regs : Regs
  pub call : event.op ≡ Ecall regs
  pub accepted : event.reply ≡ Waiting
  pub remote : Remote
  pub fences : remote_of o.config (call_of regs) ≡ Some remote
  pub drops : remote.flush ≡ Ok (Entries fence)

-- The event, an access by hart h, was missed by a fence call: the call succeeded, and its fence is of the address and
-- of the entry's address space. From the place of the ask on, the page tables never gave the access what its entry
-- gave, neither by the satp of each place nor by the present one. Which harts the call named doesn't matter (SBI 8;
-- Privileged 4.2.1).
pub record IsMissed (o : Opening) (past : List Event) (h : ℕ) (event : Event) (reach : Reach) : Type 0 where
  pub entry : Entry
  pub uses : event.translation ≡ Some entry
  pub caller : ℕ
  pub place : ℕ
  pub fence : Fence
  pub asked : WasAsked o past caller place fence
  pub page : is_of_page fence.range reach.va ≡ true
  pub space : is_of_space fence.asid (satp o past h) entry.leaf ≡ true
  pub returned : Succeeded o past caller place
  pub other_then : (m : ℕ) → place ≤ m → m ≤ place_after o past
      → IsOtherThan (memory o (past_at o past m)) (satp o (past_at o past m) h) reach.va (kind_of reach.access) entry
  pub other_now : (m : ℕ) → place ≤ m → m ≤ place_after o past
      → IsOtherThan (memory o (past_at o past m)) (satp o past h) reach.va (kind_of reach.access) entry
