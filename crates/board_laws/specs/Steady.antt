-- Accesses after a fence, while the page tables give one result (Privileged 4.2.1; SBI 8).
use Rattle.std.specs.Prelude.{◌≡◌, ℕ, ◌<◌, ◌≤◌, List, Option, None, Result, Ok, Err}
use Rattle.sv39.specs.declared.cause.Cause.{Cause}
use Rattle.sv39.specs.declared.page.Leaf.{Leaf}
use Rattle.sv39.specs.Maps.{maps}
use Rattle.tlb_model.specs.declared.entry.Address.{Address}
use Rattle.tlb_model.specs.Entries.{Entry}
use Rattle.hart_access.specs.Accesses as whole
use Rattle.hart_access.specs.AccessKinds.{kind_of}
use Rattle.hart_access.specs.Ways.{phys_at, phys_in}
use Rattle.board_core.specs.Opening.{Opening}
use Rattle.board_terms.specs.declared.reply.Reply.TheVariants.{Fault}
use Rattle.board_core.specs.Accesses.{access_reply_of, cached}
use Rattle.board_core.specs.History.{Event, Reach}
use Rattle.board_core.specs.Memory.{memory, satp}
use Rattle.board_laws.specs.Places.{past_at}

-- At all places after a up to p, hart t's satp is that of p, and the page tables give this access this result.
pub record TablesAreSteady (o : Opening) (past : List Event) (t a p : ℕ) (reach : Reach)
    (result : Result Leaf Cause) : Type 0 where
  pub same_satp : (m : ℕ) → a < m → m ≤ p → satp o (past_at o past m) t ≡ satp o (past_at o past p) t
  pub one_result : (m : ℕ) → a < m → m ≤ p
      → maps (memory o (past_at o past m)) (satp o (past_at o past p) t) reach.va (kind_of reach.access) ≡ result

-- an empty TLB
abbrev pub no_tlb : Address → Option Entry
no_tlb at = None

-- The page tables' result decides the access: a leaf gives the physical address, a fault is the reply, and the reply is
-- that of a board without TLBs.
pub record IsDecidedBy (o : Opening) (past : List Event) (t : ℕ) (event : Event) (reach : Reach)
    (result : Result Leaf Cause) : Type 0 where
  pub address : (leaf : Leaf) → result ≡ Ok leaf → phys_at event.translation reach.va ≡ phys_in leaf reach.va
  pub fault : (cause : Cause) → result ≡ Err cause → event.reply ≡ Fault cause
  pub reply : event.reply
      ≡ access_reply_of reach.access
      (whole.answer (memory o past) (satp o past t) no_tlb (cached o past t) reach.va reach.access)
