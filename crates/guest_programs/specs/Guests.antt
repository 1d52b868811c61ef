-- What a hart's guest did, and what it does next (profile).
use Rattle.std.specs.Prelude.{◌≡◌, ℕ, Bool, true, false, if◌then◌else◌, List, [], ◌∷◌, ◌++◌, Option, Some, None}
use Rattle.board_terms.specs.declared.op.Op.{Op}
use Rattle.board_terms.specs.declared.op.Op.TheVariants.{Poll, Serve, Advance, Tick}
use Rattle.board_terms.specs.declared.reply.Reply.{Reply}
use Rattle.board_terms.specs.declared.reply.Reply.TheVariants.{Entry}
use Rattle.board_core.specs.Course.{is_hart}
use Rattle.board_core.specs.History.{Event}

-- Whether an operation is a guest's: neither the firmware's nor the clock's.
abbrev pub is_guest : Op → Bool
is_guest Poll = false
is_guest Serve = false
is_guest Advance = false
is_guest (Tick n) = false
is_guest op = true

-- ---- what a history says about a guest

-- the address at which a hart begins, and its registers there: its id in a0, and the opaque value in a1 (SBI 9.1, 9.4)
pub record Entered : Type 0 where
  pub addr : ℕ
  pub hart : ℕ
  pub opaque : ℕ

-- operations of a guest with their replies, newest first
abbrev pub Did : Type 0
Did = List (Op × Reply)

-- what an event means for a hart's guest: an entry, an operation with its reply, or nothing
pub data Meaning : Type 0 where
  Enters : Entered → Meaning
  Does : Op → Reply → Meaning
  Still : Meaning

abbrev pub meaning_by : Op → Reply → Meaning
meaning_by op (Entry addr hart opaque) = Enters (record { addr = addr; hart = hart; opaque = opaque })
meaning_by op reply = if is_guest op then Does op reply else Still

abbrev pub meaning_of : ℕ → Event → Meaning
meaning_of h e = if is_hart h e.actor then meaning_by e.op e.reply else Still

abbrev pub entry_after : Meaning → Option Entered → Option Entered
entry_after (Enters entry) before = Some entry
entry_after (Does op reply) before = before
entry_after Still before = before

-- The last entry of hart h, if there was one.
abbrev pub last_entry : List Event → ℕ → Option Entered
last_entry [] h = None
last_entry (e ∷ past) h = entry_after (meaning_of h e) (last_entry past h)

abbrev pub did_after : Meaning → Did → Did
did_after (Enters entry) before = []
did_after (Does op reply) before = (op, reply) ∷ before
did_after Still before = before

-- What the guest of hart h did since its last entry.
abbrev pub did : List Event → ℕ → Did
did [] h = []
did (e ∷ past) h = did_after (meaning_of h e) (did past h)

-- ---- what guests do

-- The guests' program: the next operation, if there is one, by the entry and the operations since.
abbrev pub Next : Type 0
Next = Entered → Did → Option Op

-- the next operation of a guest; none if its hart was never entered
abbrev pub next_for : Next → Option Entered → Did → Option Op
next_for guests None before = None
next_for guests (Some entry) before = guests entry before

-- The next operation of hart h's guest.
abbrev pub next_op : Next → List Event → ℕ → Option Op
next_op guests past h = next_for guests (last_entry past h) (did past h)

-- Each of these operations was the guest's next one at its time.
abbrev pub AreNext : Next → Option Entered → Did → Type 0
AreNext guests entry [] = Unit {0}
AreNext guests entry (one ∷ before) = (next_for guests entry before ≡ Some one.0) × AreNext guests entry before

-- Since its last entry hart h's guest did only its next operations.
abbrev pub HasFollowed : Next → List Event → ℕ → Type 0
HasFollowed guests past h = AreNext guests (last_entry past h) (did past h)

-- ---- how far a guest is

-- what a guest does from some moment on, by its operations since
abbrev pub Rest : Type 0
Rest = Did → Option Op

-- `rest` is what a guest does after this entry and these operations.
abbrev pub IsBehind : Rest → Next → Option Entered → Did → Type 0
IsBehind rest guests entry before = (more : Did) → rest more ≡ next_for guests entry (more ++ before)

-- `rest` is what the guest of hart h does after this history.
abbrev pub IsAt : Rest → Next → List Event → ℕ → Type 0
IsAt rest guests past h = IsBehind rest guests (last_entry past h) (did past h)
