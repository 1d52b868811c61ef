-- An accepted step, as a board records it (profile).
use Rattle.std.specs.Prelude.{◌≡◌, ℕ, Option, Some, None}
use Rattle.amo.specs.Amos.{amo_size}
use Rattle.amo.specs.Parts.{word_at}
use Rattle.tlb_model.specs.Entries.{Entry}
use Rattle.hart_access.specs.declared.accesses.Access.{Access}
use Rattle.hart_access.specs.declared.accesses.Access.TheVariants as accesses
use Rattle.board_terms.specs.declared.op.Actor.{Actor}
use Rattle.board_terms.specs.declared.op.Actor.TheVariants.{Hart, Clock}
use Rattle.board_terms.specs.declared.op.Op.{Op}
use Rattle.board_terms.specs.declared.op.Op.TheVariants.{Load, Store, Fetch, Amo}
use Rattle.board_terms.specs.declared.reply.Reply.{Reply}

-- The actor, the operation, the reply, and the TLB entry that an access hit or filled, if any.
pub record Event : Type 0 where
  pub actor : Actor
  pub op : Op
  pub reply : Reply
  pub translation : Option Entry

-- an operation of hart x that isn't an access
abbrev pub by_hart : (x : ℕ) → Op → Reply → Event
by_hart x op reply = record { actor = Hart x; op = op; reply = reply; translation = None }

-- an operation of hart x, with the entry that it used
abbrev pub using : (x : ℕ) → Op → Reply → Option Entry → Event
using x op reply used = record { actor = Hart x; op = op; reply = reply; translation = used }

-- an operation of the clock
abbrev pub by_clock : Op → Reply → Event
by_clock op reply = record { actor = Clock; op = op; reply = reply; translation = None }

-- an access to a word of 8 bytes, and the word's virtual address
pub record Reach : Type 0 where
  pub va : ℕ
  pub access : Access

-- The operation's access, if it is one. An AMO's is to the word around its address; if the address isn't aligned to the
-- AMO's size, the access is to that address, and fails.
abbrev pub access_of : Op → Option Reach
access_of (Load va) = Some (record { va = va; access = accesses.Load })
access_of (Store va value) = Some (record { va = va; access = accesses.Store value })
access_of (Fetch va) = Some (record { va = va; access = accesses.Fetch })
access_of (Amo at amo) = Some (record { va = word_at (amo_size amo) at; access = accesses.Amo at amo })
access_of op = None

-- the entry that an operation used, if it is an access
abbrev pub entry_of : Option Reach → Option Entry → Option Entry
entry_of None used = None
entry_of (Some reach) used = used

-- the operation of an access to a virtual address
abbrev pub access_op : (va : ℕ) → Access → Op
access_op va accesses.Load = Load va
access_op va (accesses.Store value) = Store va value
access_op va accesses.Fetch = Fetch va
access_op va (accesses.Amo at amo) = Amo at amo

-- the access, to this address, is the one of its operation
abbrev pub IsReach : (va : ℕ) → Access → Type 0
IsReach va access = access_of (access_op va access) ≡ Some (record { va = va; access = access })
