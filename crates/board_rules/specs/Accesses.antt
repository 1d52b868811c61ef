-- The replies of accesses, and the TLB entries that they use (Privileged 4.1.11, 4.2.1, 4.3.2, 4.4, 4.5).
use Rattle.std.specs.Prelude.{ℕ, if◌then◌else◌, List, Option, Some, None, Result, Ok, Err}
use Rattle.amo.specs.Amos.{reads}
use Rattle.sv39.specs.declared.cause.Cause.{Cause}
use Rattle.tlb_model.specs.declared.entry.Address.{Address}
use Rattle.tlb_model.specs.Entries.{Entry}
use Rattle.tlb_model.specs.declared.word.FetchWord.{FetchWord}
use Rattle.hart_access.specs.declared.accesses.Access.{Access}
use Rattle.hart_access.specs.declared.accesses.Access.TheVariants.{Load, Store, Fetch, Amo}
use Rattle.hart_access.specs.Accesses as whole
use Rattle.board_rules.specs.Opening.{Opening}
use Rattle.board_terms.specs.declared.op.Actor.{Actor}
use Rattle.board_terms.specs.declared.op.Actor.TheVariants.{Hart, Clock}
use Rattle.board_terms.specs.declared.op.Op.{Op}
use Rattle.board_terms.specs.declared.reply.Reply.{Reply}
use Rattle.board_terms.specs.declared.reply.Reply.TheVariants.{Value, Fault, Done}
use Rattle.board_rules.specs.History.{Event, Reach, access_of}
use Rattle.board_rules.specs.Memory.{cached_in, hit_in, memory, satp, tlb_acts, word_acts}

-- The reply of an access: the value read, Done for a store, or why it failed.
abbrev pub access_reply_of : Access → Result ℕ Cause → Reply
access_reply_of Load (Ok word) = Value word
access_reply_of (Store value) (Ok word) = Done
access_reply_of Fetch (Ok word) = Value word
access_reply_of (Amo at amo) (Ok old) = if reads amo then Value old else Done
access_reply_of access (Err cause) = Fault cause

module _ (o : Opening) (past : List Event) (x : ℕ) where
  -- the hit of an address in hart x's TLB, and the word of a physical address in its instruction cache
  abbrev pub hit : Address → Option Entry
  hit = hit_in o x (tlb_acts o past x)

  abbrev pub cached : ℕ → Option FetchWord
  cached = cached_in o x (word_acts o past x)

  -- the entry that an access of hart x hits or fills, if any
  abbrev pub used_by_access : Option Reach → Option Entry
  used_by_access None = None
  used_by_access (Some reach) = whole.used (memory o past) (satp o past x) hit reach.va reach.access

  -- the entry that an operation of hart x uses, if it is an access
  abbrev pub used : Op → Option Entry
  used op = used_by_access (access_of op)

  -- the reply of hart x's access to a virtual address
  abbrev pub access_reply : (va : ℕ) → Access → Reply
  access_reply va access = access_reply_of access (whole.answer (memory o past) (satp o past x) hit cached va access)

-- the entry that an actor's operation uses; the clock makes no access
abbrev pub used_by_actor : Opening → List Event → Actor → Op → Option Entry
used_by_actor o past (Hart x) op = used o past x op
used_by_actor o past Clock op = None
