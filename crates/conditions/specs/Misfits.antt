-- Words of patterns that no step of a board can have in their places (profile).
use Rattle.std.specs.Prelude.{◌≡◌, ◌≢◌, ℕ, ◌-◌, ◌^◌, ◌≤◌, ◌⊎◌, ◌==◌, nat_lt, nat_le, ◌||◌, ◌&&◌, not, Bool, true, false, List, slice_get, Option, Some}
use Rattle.amo.specs.declared.name.AmoName.TheVariants as amos
use Rattle.amo.specs.Names.{reads_by}
use Rattle.sv39.specs.Causes.{access_fault, cause_number, misaligned, page_fault}
use Rattle.sv39.specs.declared.cause.Kind.{Kind}
use Rattle.sv39.specs.declared.cause.Kind.TheVariants as kinds
use Rattle.script_lines.specs.declared.op_name.OpName.{OpName}
use Rattle.script_lines.specs.declared.op_name.OpName.TheVariants.{Ecall, Load, Store, Fetch, Satp, Sie, Sstatus, Sip, Clearssip, Sfence, Fencei, Wfi, Amo, Poll, Serve, Advance, Tick}
use Rattle.script_lines.specs.declared.said_name.SaidName.{SaidName}
use Rattle.script_lines.specs.declared.said_name.SaidName.TheVariants as saids
use Rattle.condition_script.specs.declared.items.Item.{Item}
use Rattle.condition_script.specs.declared.items.Item.TheVariants.{Word, Number, Below, Absent}
use Rattle.conditions.specs.declared.misfits.Misfit.{Misfit}
use Rattle.conditions.specs.declared.misfits.Misfit.TheVariants.{NoHart, OtherActor, Unheld, NoReply, NoAnswer, Untold, NoMark}
use Rattle.condition_script.specs.declared.marks.Mark.{Mark}
use Rattle.condition_script.specs.declared.names.Name.TheVariants.{Clock, Op, Said}
use Rattle.condition_script.specs.declared.names.Name.TheVariants as names
use Rattle.condition_script.specs.declared.patterns.Pattern.{Pattern}
use Rattle.condition_script.specs.declared.rules.Rule.{Rule}
use Rattle.condition_script.specs.declared.rules.Rule.TheVariants.{Never, NeverAfter, OfSome, Each, End, Before, CanEnd}

-- this word stands in a place of a pattern's part, from 0, where `_` is none
abbrev pub IsWordAt : List (Option Item) → ℕ → Item → Type 0
IsWordAt words place item = slice_get words place ≡ Some (Some item)

-- What an operation can have behind its name: a number, which for `sstatus` is at most 1; or, for `sfence`, a dash,
-- which names no address or no ASID (Privileged 4.2.1).
abbrev pub OpCanHave : OpName → Item → Type 0
OpCanHave op (Number n) = op ≡ Sstatus → n ≤ 1
OpCanHave op Absent = op ≡ Sfence
OpCanHave op (Below n) = ⊥
OpCanHave op (Word name) = ⊥

-- Whether an actor can do an operation: the clock ticks, and a hart does all others.
abbrev pub CanDo : Item → OpName → Type 0
CanDo (Word Clock) op = op ≡ Tick
CanDo (Word name) op = ⊥
CanDo (Number hart) op = op ≢ Tick
CanDo (Below n) op = ⊥
CanDo Absent op = ⊥

-- Whether a number is the cause of a fault of such an access: its address is misaligned, or outside of the RAM, or the page tables don't
-- allow it (Privileged 4.1.8).
abbrev pub is_cause_of : Kind → ℕ → Bool
is_cause_of kind n = (n == cause_number (misaligned kind) || n == cause_number (access_fault kind)) || n == cause_number (page_fault kind)

-- Whether it is the cause of a fault of some access.
abbrev pub is_cause : ℕ → Bool
is_cause n = (is_cause_of kinds.Fetch n || is_cause_of kinds.Load n) || is_cause_of kinds.Store n

-- Whether a hart can be brought to a state of this number, without an entry or a return: STOPPED, SUSPENDED or RESUME_PENDING (SBI 9).
abbrev pub is_moved_to : ℕ → Bool
is_moved_to n = (n == 1 || n == 4) || n == 6

-- What a reply can have in a place behind its name, from 1. The error of `ret` is 0 or one of -1 to -8 (SBI 3).
abbrev pub ReplyCanHave : SaidName → ℕ → Item → Type 0
ReplyCanHave said place (Number n) =
    (said ≡ saids.Ret → place ≡ 1 → n ≡ 0) × (said ≡ saids.Moved → is_moved_to n ≡ true) × (said ≡ saids.Fault → is_cause n ≡ true)
ReplyCanHave said place (Below n) = (said ≡ saids.Ret) × (place ≡ 1) × (n ≤ 8)
ReplyCanHave said place Absent = ⊥
ReplyCanHave said place (Word name) = ⊥

-- Whether an accepted operation can have this reply. A call returns, waits or doesn't return (SBI 3). A load, a fetch
-- and an AMO have a value or a fault, and a store is done or has a fault (Privileged 4.1.8). A poll returns, and a
-- serve is served. An advance enters, moves, or returns from a suspend (SBI 9). A read of sip has a value. All else is
-- done.
abbrev pub is_reply_to : OpName → SaidName → Bool
is_reply_to Ecall saids.Ret = true
is_reply_to Ecall saids.Waiting = true
is_reply_to Ecall saids.Gone = true
is_reply_to Load saids.Value = true
is_reply_to Load saids.Fault = true
is_reply_to Store saids.Done = true
is_reply_to Store saids.Fault = true
is_reply_to Fetch saids.Value = true
is_reply_to Fetch saids.Fault = true
is_reply_to (Amo name) saids.Value = reads_by name
is_reply_to (Amo name) saids.Done = not (reads_by name)
is_reply_to (Amo name) saids.Fault = true
is_reply_to Satp saids.Done = true
is_reply_to Sie saids.Done = true
is_reply_to Sstatus saids.Done = true
is_reply_to Sip saids.Value = true
is_reply_to Clearssip saids.Done = true
is_reply_to Sfence saids.Done = true
is_reply_to Fencei saids.Done = true
is_reply_to Wfi saids.Done = true
is_reply_to Poll saids.Ret = true
is_reply_to Serve saids.Served = true
is_reply_to Advance saids.Entry = true
is_reply_to Advance saids.Moved = true
is_reply_to Advance saids.Ret = true
is_reply_to Tick saids.Done = true
is_reply_to op said = false

-- Whether a number is the cause of a fault of this operation's access. A store of 1 byte is aligned at each address.
abbrev pub is_cause_by : OpName → ℕ → Bool
is_cause_by Load n = is_cause_of kinds.Load n
is_cause_by Store n = is_cause_of kinds.Store n
is_cause_by Fetch n = is_cause_of kinds.Fetch n
is_cause_by (Amo amos.Store1) n = is_cause_of kinds.Store n && not (n == cause_number (misaligned kinds.Store))
is_cause_by (Amo name) n = is_cause_of kinds.Store n
is_cause_by op n = true

-- Whether `sip` can read a number: SSIP is bit 1, STIP bit 5 (Privileged 4.1.3).
abbrev pub is_pending : ℕ → Bool
is_pending n = (n == 0 || n == 2) || (n == 32 || n == 34)

-- Whether a number is 4 bytes sign-extended to 8.
abbrev pub is_sign_extended : ℕ → Bool
is_sign_extended n = nat_lt n (2 ^ 31) || nat_le (2 ^ 64 - 2 ^ 31) n

-- Whether an operation can read a number: an AMO on 4 bytes reads them sign-extended (unprivileged ISA 8.4).
abbrev pub is_value_of : OpName → ℕ → Bool
is_value_of Sip n = is_pending n
is_value_of (Amo (amos.Half function)) n = is_sign_extended n
is_value_of op n = true

-- What an operation can have behind the name of its reply: its access's causes; what it can read; and 0, where a fence call or a suspend
-- ends (SBI 8, 9). Only a call returns errors.
abbrev pub CanAnswer : OpName → SaidName → Item → Type 0
CanAnswer op said (Number n) =
    (said ≡ saids.Fault → is_cause_by op n ≡ true) × (said ≡ saids.Value → is_value_of op n ≡ true) × (said ≡ saids.Ret → op ≢ Ecall → n ≡ 0)
CanAnswer op said (Below n) = op ≡ Ecall
CanAnswer op said Absent = ⊥
CanAnswer op said (Word name) = ⊥

-- The actor of a pattern is the clock.
abbrev pub IsClocks : Pattern → Type 0
IsClocks p = IsWordAt p.step.items 0 (Word Clock)

-- The operation that a pattern means: of the clock a tick, otherwise the one that it names.
abbrev pub MeansOp : Pattern → OpName → Type 0
MeansOp p op = (IsClocks p × (op ≡ Tick)) ⊎ ((IsClocks p → ⊥) × IsWordAt p.step.items 1 (Word (Op op)))

-- the mark in the place of a pattern's reply
abbrev pub IsMarked : Pattern → Mark → Type 0
IsMarked p mark = IsWordAt p.reply.items 0 (Word (names.Mark mark))

-- whether an operation of this name is an access
abbrev pub is_access : OpName → Bool
is_access Load = true
is_access Store = true
is_access Fetch = true
is_access (Amo name) = true
is_access op = false

-- The pattern has a mark that no step can have: any, if the records tell none; otherwise that of an operation that is no access.
abbrev pub IsMarkMisfit : (told : Bool) → Pattern → Misfit → Type 0
IsMarkMisfit false p misfit = (mark : Mark) × IsMarked p mark × (misfit ≡ Untold mark)
IsMarkMisfit true p misfit =
    (mark : Mark) × IsMarked p mark × ((op : OpName) × MeansOp p op × (is_access op ≡ false) × (misfit ≡ NoMark op mark))

-- The actor of a pattern can't do its operation.
pub record IsDoerMisfit (p : Pattern) (misfit : Misfit) : Type 0 where
  pub actor : Item
  pub stands : IsWordAt p.step.items 0 actor
  pub op : OpName
  pub named : IsWordAt p.step.items 1 (Word (Op op))
  pub unable : ¬ CanDo actor op
  pub told : misfit ≡ OtherActor op

-- Behind its name the operation of a pattern has a word that it can't have.
pub record IsOpMisfit (p : Pattern) (misfit : Misfit) : Type 0 where
  pub op : OpName
  pub named : IsWordAt p.step.items 1 (Word (Op op))
  pub place : ℕ
  pub item : Item
  pub behind : 2 ≤ place
  pub stands : IsWordAt p.step.items place item
  pub unheld : ¬ OpCanHave op item
  pub told : misfit ≡ Unheld (Op op) item

-- The operation of a pattern can't have its reply.
pub record IsAnswerMisfit (p : Pattern) (misfit : Misfit) : Type 0 where
  pub op : OpName
  pub meant : MeansOp p op
  pub said : SaidName
  pub replied : IsWordAt p.reply.items 0 (Word (Said said))
  pub unheld : is_reply_to op said ≡ false
  pub told : misfit ≡ NoReply op said

-- The operation of a pattern can't have this word in its reply.
abbrev pub IsWrongAnswer : Pattern → SaidName → Item → Misfit → Type 0
IsWrongAnswer p said item misfit =
    (op : OpName) × MeansOp p op × (¬ CanAnswer op said item) × (misfit ≡ NoAnswer op said item)

module _ (harts : ℕ) where
  -- The word is a hart that a board with so many harts doesn't have.
  abbrev pub IsBeyond : Item → Misfit → Type 0
  IsBeyond item misfit = (hart : ℕ) × (item ≡ Number hart) × (harts ≤ hart) × (misfit ≡ NoHart hart)

  -- In this place of a reply the word is such a hart, as the third word of `entry` names one; or the reply can't have it there.
  abbrev pub IsWrongWord : SaidName → ℕ → Item → Misfit → Type 0
  IsWrongWord said place item misfit = ((said ≡ saids.Entry) × (place ≡ 2) × IsBeyond item misfit)
      ⊎ (¬ ReplyCanHave said place item × (misfit ≡ Unheld (Said said) item))

  -- The same, or the pattern's operation can't have the word in this reply.
  abbrev pub IsWrongInReply : Pattern → SaidName → ℕ → Item → Misfit → Type 0
  IsWrongInReply p said place item misfit = IsWrongWord said place item misfit ⊎ IsWrongAnswer p said item misfit

  -- The actor of a pattern is such a hart.
  pub record IsActorMisfit (p : Pattern) (misfit : Misfit) : Type 0 where
    pub item : Item
    pub stands : IsWordAt p.step.items 0 item
    pub beyond : IsBeyond item misfit

  -- Behind its name the reply of a pattern has a word that is wrong there.
  pub record IsReplyMisfit (p : Pattern) (misfit : Misfit) : Type 0 where
    pub said : SaidName
    pub named : IsWordAt p.reply.items 0 (Word (Said said))
    pub place : ℕ
    pub item : Item
    pub behind : 1 ≤ place
    pub stands : IsWordAt p.reply.items place item
    pub wrong : IsWrongInReply p said place item misfit

-- The pattern has a word that these rules exclude from its place on a board with so many harts, an operation that its actor can't do, or
-- a reply or a mark that its operation can't have. Whether records tell marks is given.
abbrev pub IsMisfitOf : (told : Bool) → (harts : ℕ) → Pattern → Misfit → Type 0
IsMisfitOf told harts p misfit =
    (IsActorMisfit harts p misfit ⊎ (IsDoerMisfit p misfit ⊎ IsOpMisfit p misfit))
    ⊎ (IsAnswerMisfit p misfit ⊎ (IsMarkMisfit told p misfit ⊎ IsReplyMisfit harts p misfit))

-- One of a condition's patterns has such a word.
abbrev pub IsMisfitBy : (told : Bool) → (harts : ℕ) → Rule → Misfit → Type 0
IsMisfitBy told harts (Never p) misfit = IsMisfitOf told harts p misfit
IsMisfitBy told harts (NeverAfter p q) misfit = IsMisfitOf told harts p misfit ⊎ IsMisfitOf told harts q misfit
IsMisfitBy told harts (OfSome p) misfit = IsMisfitOf told harts p misfit
IsMisfitBy told harts (Each p) misfit = IsMisfitOf told harts p misfit
IsMisfitBy told harts (End ends) misfit = ⊥
IsMisfitBy told harts (Before p q) misfit = IsMisfitOf told harts p misfit ⊎ IsMisfitOf told harts q misfit
IsMisfitBy told harts (CanEnd ends) misfit = ⊥

-- One of a condition's patterns has such a word: the board has no such hart, the actor can't do the operation, the operation or the
-- reply can't have the word in its place, the operation can't have the reply, or the word in it, or the records tell no marks.
abbrev pub IsMisfit : ℕ → Rule → Misfit → Type 0
IsMisfit harts rule misfit = IsMisfitBy false harts rule misfit

-- The same of records that tell marks: the operation can't have the mark.
abbrev pub IsMisfitWith : ℕ → Rule → Misfit → Type 0
IsMisfitWith harts rule misfit = IsMisfitBy true harts rule misfit
