-- How an event is packed: the actor and the reply fill the padding beside the operation's tag, except a reply's first
-- number, if it isn't a call's, and the opaque value of an entry. Private: an event's clauses name only the record of
-- four.
use Rattle.std.specs.Prelude.{◌≡◌, ℕ, Option, None, if◌then◌else◌, nat_lt}
use Rattle.amo.specs.Names.{amo_first, made_of, amo_name, amo_second}
use Rattle.tlb_model.specs.Entries.{Entry}
use Rattle.board_terms.specs.declared.op.Actor.{Actor}
use Rattle.board_terms.specs.declared.op.Actor.TheVariants.{Hart, Clock}
use Rattle.board_terms.specs.declared.op.Op.{Op}
use Rattle.board_terms.specs.declared.op.Op.TheVariants as ops
use Rattle.board_terms.specs.declared.reply.Reply.{Reply}
use Rattle.board_terms.specs.declared.reply.Reply.TheVariants as replies
use Rattle.board_rules.specs.Room.{by_of, first_of}
use Rattle.board_rules.specs.declared.keeping.Head.{Head}
use Rattle.board_rules.specs.declared.keeping.Said.{Said}
use Rattle.board_rules.specs.declared.keeping.Said.TheVariants as says
use Rattle.board_rules.specs.declared.keeping.What.{What}
use Rattle.board_rules.specs.declared.keeping.What.TheVariants as kept

-- ---- who made it

abbrev pub actor_of : (by : ℕ) → Actor
actor_of by = if nat_lt by 255 then Hart by else Clock

-- ---- what was answered

abbrev pub said_of : Reply → Said
said_of (replies.Ret ret) = says.Ret ret.error
said_of replies.Waiting = says.Waiting
said_of replies.Gone = says.Gone
said_of (replies.Entry addr hart opaque) = says.Entry
said_of (replies.Value value) = says.Value
said_of (replies.Fault cause) = says.Fault cause
said_of replies.Served = says.Served
said_of (replies.Moved state) = says.Moved state
said_of replies.Done = says.Done

-- the opaque value of an entry, and 0 for any other reply
abbrev pub opaque_of : Reply → ℕ
opaque_of (replies.Entry addr hart opaque) = opaque
opaque_of reply = 0

abbrev pub reply_of : Said → (hart first opaque : ℕ) → Reply
reply_of (says.Ret error) hart first opaque = replies.Ret (record { error = error; value = first })
reply_of says.Waiting hart first opaque = replies.Waiting
reply_of says.Gone hart first opaque = replies.Gone
reply_of says.Entry hart first opaque = replies.Entry first hart opaque
reply_of says.Value hart first opaque = replies.Value first
reply_of (says.Fault cause) hart first opaque = replies.Fault cause
reply_of says.Served hart first opaque = replies.Served
reply_of (says.Moved state) hart first opaque = replies.Moved state
reply_of says.Done hart first opaque = replies.Done

abbrev pub head_of : Actor → Reply → Head
head_of actor reply = record { by = by_of actor; said = said_of reply }

-- ---- what was done

abbrev pub what_of : Head → Op → Option Entry → (first opaque : ℕ) → What
what_of head (ops.Ecall regs) used first opaque = kept.Ecall head first regs
what_of head (ops.Load va) used first opaque = kept.Load head va first used
what_of head (ops.Store va value) used first opaque = kept.Store head va value used
what_of head (ops.Fetch va) used first opaque = kept.Fetch head va first used
what_of head (ops.Amo at amo) used first opaque =
    kept.Amo head (amo_name amo) at (amo_first amo) (amo_second amo) first used
what_of head (ops.WriteSatp value) used first opaque = kept.WriteSatp head value
what_of head (ops.WriteSie value) used first opaque = kept.WriteSie head value
what_of head (ops.WriteSstatusSie value) used first opaque = kept.WriteSstatusSie head value
what_of head ops.ReadSip used first opaque = kept.ReadSip head first
what_of head ops.ClearSsip used first opaque = kept.ClearSsip head
what_of head ops.Wfi used first opaque = kept.Wfi head
what_of head (ops.Sfence va asid) used first opaque = kept.Sfence head va asid
what_of head ops.FenceI used first opaque = kept.FenceI head
what_of head ops.Poll used first opaque = kept.Poll head
what_of head ops.Serve used first opaque = kept.Serve head
what_of head ops.Advance used first opaque = kept.Advance head first opaque
what_of head (ops.Tick n) used first opaque = kept.Tick head n

abbrev pub head_in : What → Head
head_in (kept.Ecall head first regs) = head
head_in (kept.Load head va first used) = head
head_in (kept.Store head va value used) = head
head_in (kept.Fetch head va first used) = head
head_in (kept.Amo head name at one two first used) = head
head_in (kept.WriteSatp head value) = head
head_in (kept.WriteSie head value) = head
head_in (kept.WriteSstatusSie head value) = head
head_in (kept.ReadSip head first) = head
head_in (kept.ClearSsip head) = head
head_in (kept.Wfi head) = head
head_in (kept.Sfence head va asid) = head
head_in (kept.FenceI head) = head
head_in (kept.Poll head) = head
head_in (kept.Serve head) = head
head_in (kept.Advance head first opaque) = head
head_in (kept.Tick head n) = head

abbrev pub op_in : What → Op
op_in (kept.Ecall head first regs) = ops.Ecall regs
op_in (kept.Load head va first used) = ops.Load va
op_in (kept.Store head va value used) = ops.Store va value
op_in (kept.Fetch head va first used) = ops.Fetch va
op_in (kept.Amo head name at one two first used) = ops.Amo at (made_of name one two)
op_in (kept.WriteSatp head value) = ops.WriteSatp value
op_in (kept.WriteSie head value) = ops.WriteSie value
op_in (kept.WriteSstatusSie head value) = ops.WriteSstatusSie value
op_in (kept.ReadSip head first) = ops.ReadSip
op_in (kept.ClearSsip head) = ops.ClearSsip
op_in (kept.Wfi head) = ops.Wfi
op_in (kept.Sfence head va asid) = ops.Sfence va asid
op_in (kept.FenceI head) = ops.FenceI
op_in (kept.Poll head) = ops.Poll
op_in (kept.Serve head) = ops.Serve
op_in (kept.Advance head first opaque) = ops.Advance
op_in (kept.Tick head n) = ops.Tick n

abbrev pub used_in : What → Option Entry
used_in (kept.Ecall head first regs) = None
used_in (kept.Load head va first used) = used
used_in (kept.Store head va value used) = used
used_in (kept.Fetch head va first used) = used
used_in (kept.Amo head name at one two first used) = used
used_in (kept.WriteSatp head value) = None
used_in (kept.WriteSie head value) = None
used_in (kept.WriteSstatusSie head value) = None
used_in (kept.ReadSip head first) = None
used_in (kept.ClearSsip head) = None
used_in (kept.Wfi head) = None
used_in (kept.Sfence head va asid) = None
used_in (kept.FenceI head) = None
used_in (kept.Poll head) = None
used_in (kept.Serve head) = None
used_in (kept.Advance head first opaque) = None
used_in (kept.Tick head n) = None

-- the stored first number of the reply
abbrev pub first_in : What → ℕ
first_in (kept.Ecall head first regs) = first
first_in (kept.Load head va first used) = first
first_in (kept.Fetch head va first used) = first
first_in (kept.Amo head name at one two first used) = first
first_in (kept.ReadSip head first) = first
first_in (kept.Advance head first opaque) = first
first_in what = 0

-- the stored opaque value of an entry
abbrev pub opaque_in : What → ℕ
opaque_in (kept.Advance head first opaque) = opaque
opaque_in what = 0

-- ---- an event

abbrev pub actor_in : What → Actor
actor_in what = actor_of (head_in what).by

abbrev pub reply_in : What → Reply
reply_in what = reply_of (head_in what).said (head_in what).by (first_in what) (opaque_in what)

-- the packed form of an event
abbrev pub what_of_event : Actor → Op → Reply → Option Entry → What
what_of_event actor op reply used = what_of (head_of actor reply) op used (first_of reply) (opaque_of reply)

-- packing the parts of the packed form gives it back
abbrev pub IsKeptWell : What → Type 0
IsKeptWell what = what_of_event (actor_in what) (op_in what) (reply_in what) (used_in what) ≡ what
