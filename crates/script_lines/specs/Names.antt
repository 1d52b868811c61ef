-- The one table of operations and replies: the word of each, the numbers that can follow it, whether a guest can do it,
-- and the resulting value (profile).
use Rattle.std.specs.Prelude.{ℕ, ◌+◌, ◌-◌, ◌^◌, Bool, true, false, ◌==◌, nat_lt, if◌then◌else◌, List, [], ◌∷◌, ◌++◌, length, slice_index_or, codes, Option, None, unwrap_or}
use Rattle.std.specs.Int.{w64, cast_signed}
use Rattle.std.specs.List.{find}
use Rattle.std.specs.Str.{bytes_eq}
use Rattle.amo.specs.declared.function.AmoFunction.TheVariants as functions
use Rattle.amo.specs.declared.name.AmoName.{AmoName}
use Rattle.amo.specs.declared.name.AmoName.TheVariants as amos
use Rattle.amo.specs.Names.{count, made_of, amo_name}
use Rattle.sbi_abi.specs.declared.call.Regs.{Regs}
use Rattle.board_terms.specs.declared.op.Op.{Op}
use Rattle.board_terms.specs.declared.op.Op.TheVariants as ops
use Rattle.script_lines.specs.declared.op_name.OpName.{OpName}
use Rattle.script_lines.specs.declared.op_name.OpName.TheVariants.{Ecall, Load, Store, Fetch, Satp, Sie, Sstatus, Sip, Clearssip, Sfence, Fencei, Wfi, Amo, Poll, Serve, Advance, Tick}
use Rattle.script_lines.specs.declared.places.Places.{Places}
use Rattle.script_lines.specs.declared.places.TheConstants.{LAST_HART}
use Rattle.script_lines.specs.declared.said.Said.{Said}
use Rattle.script_lines.specs.declared.said.Said.TheVariants as says
use Rattle.script_lines.specs.declared.said_name.SaidName.{SaidName}
use Rattle.script_lines.specs.declared.said_name.SaidName.TheVariants as saids

-- ---- numbers

-- the largest number of 64 bits
abbrev pub last_number : ℕ
last_number = 2 ^ 64 - 1

-- the largest hart id
abbrev pub last_hart : ℕ
last_hart = LAST_HART

-- numbers of any size, from `least` to `most` of them
abbrev pub any_numbers : (least most : ℕ) → Places
any_numbers least most = record { least = least; most = most; limit = last_number; may_be_absent = false }

-- the argument at a place; None if it is absent
abbrev pub argument_at : List (Option ℕ) → ℕ → Option ℕ
argument_at arguments i = slice_index_or arguments i None

-- the number at a place, which is 0 if absent
abbrev pub number_at : List (Option ℕ) → ℕ → ℕ
number_at arguments i = unwrap_or (argument_at arguments i) 0

-- the number at a place, or `other` if there are fewer arguments
abbrev pub number_or : (other : ℕ) → List (Option ℕ) → ℕ → ℕ
number_or other arguments i = if nat_lt i (length arguments) then number_at arguments i else other

-- the first of the items with this word
abbrev pub by_word : {A : Type 0} → (A → List ℕ) → List A → List ℕ → Option A
by_word word_of names word = find (λ name. bytes_eq word (word_of name)) names

-- ---- operations

-- the operations on the word around an address: AMOs on 8 and 4 bytes, a compare-and-swap, and stores of some bytes
abbrev pub amo_ops : List OpName
amo_ops =
    Amo (amos.Double functions.Swap)
    ∷ Amo (amos.Double functions.Add)
    ∷ Amo (amos.Double functions.And)
    ∷ Amo (amos.Double functions.Or)
    ∷ Amo (amos.Double functions.Xor)
    ∷ Amo (amos.Double functions.Min)
    ∷ Amo (amos.Double functions.Max)
    ∷ Amo (amos.Double functions.Minu)
    ∷ Amo (amos.Double functions.Maxu)
    ∷ Amo (amos.Half functions.Swap)
    ∷ Amo (amos.Half functions.Add)
    ∷ Amo (amos.Half functions.And)
    ∷ Amo (amos.Half functions.Or)
    ∷ Amo (amos.Half functions.Xor)
    ∷ Amo (amos.Half functions.Min)
    ∷ Amo (amos.Half functions.Max)
    ∷ Amo (amos.Half functions.Minu)
    ∷ Amo (amos.Half functions.Maxu)
    ∷ Amo amos.Cas
    ∷ Amo amos.Store1
    ∷ Amo amos.Store2
    ∷ Amo amos.Store4
    ∷ []

-- the operations of guests, and those of a hart's firmware and the clock
abbrev pub guest_ops : List OpName
guest_ops =
    Ecall
    ∷ Load
    ∷ Store
    ∷ Fetch
    ∷ Satp
    ∷ Sie
    ∷ Sstatus
    ∷ Sip
    ∷ Clearssip
    ∷ Sfence
    ∷ Fencei
    ∷ Wfi
    ∷ amo_ops

abbrev pub firmware_ops : List OpName
firmware_ops = Poll ∷ Serve ∷ Advance ∷ Tick ∷ []

-- all of them
abbrev pub op_names : List OpName
op_names = guest_ops ++ firmware_ops

-- the word that names an operation on the word around its address; `.w` is for 4 bytes
abbrev pub amo_word : AmoName → List ℕ
amo_word (amos.Double functions.Swap) = codes "amoswap"
amo_word (amos.Double functions.Add) = codes "amoadd"
amo_word (amos.Double functions.And) = codes "amoand"
amo_word (amos.Double functions.Or) = codes "amoor"
amo_word (amos.Double functions.Xor) = codes "amoxor"
amo_word (amos.Double functions.Min) = codes "amomin"
amo_word (amos.Double functions.Max) = codes "amomax"
amo_word (amos.Double functions.Minu) = codes "amominu"
amo_word (amos.Double functions.Maxu) = codes "amomaxu"
amo_word (amos.Half functions.Swap) = codes "amoswap.w"
amo_word (amos.Half functions.Add) = codes "amoadd.w"
amo_word (amos.Half functions.And) = codes "amoand.w"
amo_word (amos.Half functions.Or) = codes "amoor.w"
amo_word (amos.Half functions.Xor) = codes "amoxor.w"
amo_word (amos.Half functions.Min) = codes "amomin.w"
amo_word (amos.Half functions.Max) = codes "amomax.w"
amo_word (amos.Half functions.Minu) = codes "amominu.w"
amo_word (amos.Half functions.Maxu) = codes "amomaxu.w"
amo_word amos.Cas = codes "amocas"
amo_word amos.Store1 = codes "store1"
amo_word amos.Store2 = codes "store2"
amo_word amos.Store4 = codes "store4"

-- the word that names an operation
abbrev pub op_word : OpName → List ℕ
op_word Ecall = codes "ecall"
op_word Load = codes "load"
op_word Store = codes "store"
op_word Fetch = codes "fetch"
op_word Satp = codes "satp"
op_word Sie = codes "sie"
op_word Sstatus = codes "sstatus"
op_word Sip = codes "sip"
op_word Clearssip = codes "clearssip"
op_word Sfence = codes "sfence"
op_word Fencei = codes "fencei"
op_word Wfi = codes "wfi"
op_word (Amo name) = amo_word name
op_word Poll = codes "poll"
op_word Serve = codes "serve"
op_word Advance = codes "advance"
op_word Tick = codes "tick"

-- the numbers that can follow an operation's name
abbrev pub op_places : OpName → Places
op_places Ecall = any_numbers 2 8
op_places Load = any_numbers 1 1
op_places Store = any_numbers 2 2
op_places Fetch = any_numbers 1 1
op_places Satp = any_numbers 1 1
op_places Sie = any_numbers 1 1
op_places Sstatus = record { least = 1; most = 1; limit = 1; may_be_absent = false }
op_places Sip = any_numbers 0 0
op_places Clearssip = any_numbers 0 0
op_places Sfence = record { least = 2; most = 2; limit = last_number; may_be_absent = true }
op_places Fencei = any_numbers 0 0
op_places Wfi = any_numbers 0 0
op_places (Amo name) = any_numbers (1 + count name) (1 + count name)
op_places Poll = any_numbers 0 0
op_places Serve = any_numbers 0 0
op_places Advance = any_numbers 0 0
op_places Tick = any_numbers 1 1

-- whether a guest can do the operation; otherwise only a hart's firmware or the clock can
abbrev pub is_guests : OpName → Bool
is_guests Poll = false
is_guests Serve = false
is_guests Advance = false
is_guests Tick = false
is_guests name = true

-- the registers of a call; a missing argument is 0
abbrev pub regs_of : List (Option ℕ) → Regs
regs_of ns = record {
  eid = number_at ns 0;
  fid = number_at ns 1;
  a = number_at ns 2 ∷ number_at ns 3 ∷ number_at ns 4 ∷ number_at ns 5 ∷ number_at ns 6 ∷ number_at ns 7 ∷ [];
}

-- the operation of this name, with its arguments
abbrev pub op_from : OpName → List (Option ℕ) → Op
op_from Ecall ns = ops.Ecall (regs_of ns)
op_from Load ns = ops.Load (number_at ns 0)
op_from Store ns = ops.Store (number_at ns 0) (number_at ns 1)
op_from Fetch ns = ops.Fetch (number_at ns 0)
op_from Satp ns = ops.WriteSatp (number_at ns 0)
op_from Sie ns = ops.WriteSie (number_at ns 0)
op_from Sstatus ns = ops.WriteSstatusSie (number_at ns 0 == 1)
op_from Sip ns = ops.ReadSip
op_from Clearssip ns = ops.ClearSsip
op_from Sfence ns = ops.Sfence (argument_at ns 0) (argument_at ns 1)
op_from Fencei ns = ops.FenceI
op_from Wfi ns = ops.Wfi
op_from (Amo name) ns = ops.Amo (number_at ns 0) (made_of name (number_at ns 1) (number_at ns 2))
op_from Poll ns = ops.Poll
op_from Serve ns = ops.Serve
op_from Advance ns = ops.Advance
op_from Tick ns = ops.Tick (number_at ns 0)

-- the name of an operation
abbrev pub name_of : Op → OpName
name_of (ops.Ecall regs) = Ecall
name_of (ops.Load va) = Load
name_of (ops.Store va value) = Store
name_of (ops.Fetch va) = Fetch
name_of (ops.WriteSatp value) = Satp
name_of (ops.WriteSie value) = Sie
name_of (ops.WriteSstatusSie value) = Sstatus
name_of ops.ReadSip = Sip
name_of ops.ClearSsip = Clearssip
name_of (ops.Sfence va asid) = Sfence
name_of ops.FenceI = Fencei
name_of ops.Wfi = Wfi
name_of (ops.Amo at amo) = Amo (amo_name amo)
name_of ops.Poll = Poll
name_of ops.Serve = Serve
name_of ops.Advance = Advance
name_of (ops.Tick n) = Tick

-- the name that a word spells
unfoldable pub op_named : List ℕ → Option OpName
op_named word = by_word op_word op_names word

-- ---- replies and refusals

-- the names whose numbers have no sign: all but `ret`
abbrev pub unsigned_saids : List SaidName
unsigned_saids =
    saids.Waiting
    ∷ saids.Gone
    ∷ saids.Entry
    ∷ saids.Value
    ∷ saids.Fault
    ∷ saids.Served
    ∷ saids.Moved
    ∷ saids.Done
    ∷ saids.Refused
    ∷ []

-- all of them
abbrev pub said_names : List SaidName
said_names = saids.Ret ∷ unsigned_saids

-- the word that spells a reply's or refusal's name
abbrev pub said_word : SaidName → List ℕ
said_word saids.Ret = codes "ret"
said_word saids.Waiting = codes "waiting"
said_word saids.Gone = codes "gone"
said_word saids.Entry = codes "entry"
said_word saids.Value = codes "value"
said_word saids.Fault = codes "fault"
said_word saids.Served = codes "served"
said_word saids.Moved = codes "moved"
said_word saids.Done = codes "done"
said_word saids.Refused = codes "refused"

-- the numbers that can follow a reply's or refusal's name; the first number of `ret` is signed
abbrev pub said_places : SaidName → Places
said_places saids.Ret = any_numbers 2 2
said_places saids.Waiting = any_numbers 0 0
said_places saids.Gone = any_numbers 0 0
said_places saids.Entry = any_numbers 3 3
said_places saids.Value = any_numbers 1 1
said_places saids.Fault = any_numbers 1 1
said_places saids.Served = any_numbers 0 0
said_places saids.Moved = any_numbers 1 1
said_places saids.Done = any_numbers 0 0
said_places saids.Refused = any_numbers 1 1

-- the reply or refusal of this name, with its arguments; the error of `ret` is given by its bits
abbrev pub said_from : SaidName → List (Option ℕ) → Said
said_from saids.Ret ns = says.Ret (cast_signed w64 (number_at ns 0)) (number_at ns 1)
said_from saids.Waiting ns = says.Waiting
said_from saids.Gone ns = says.Gone
said_from saids.Entry ns = says.Entry (number_at ns 0) (number_at ns 1) (number_at ns 2)
said_from saids.Value ns = says.Value (number_at ns 0)
said_from saids.Fault ns = says.Fault (number_at ns 0)
said_from saids.Served ns = says.Served
said_from saids.Moved ns = says.Moved (number_at ns 0)
said_from saids.Done ns = says.Done
said_from saids.Refused ns = says.Refused (number_at ns 0)

-- the name of a reply or refusal
abbrev pub name_of_said : Said → SaidName
name_of_said (says.Ret error value) = saids.Ret
name_of_said says.Waiting = saids.Waiting
name_of_said says.Gone = saids.Gone
name_of_said (says.Entry addr hart opaque) = saids.Entry
name_of_said (says.Value value) = saids.Value
name_of_said (says.Fault cause) = saids.Fault
name_of_said says.Served = saids.Served
name_of_said (says.Moved state) = saids.Moved
name_of_said says.Done = saids.Done
name_of_said (says.Refused n) = saids.Refused

-- the name of a reply or refusal that a word spells
unfoldable pub said_named : List ℕ → Option SaidName
said_named word = by_word said_word said_names word
