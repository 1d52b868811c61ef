-- The invariants of the lock, seats, receipts and records: private.
use Rattle.std.specs.Prelude.{◌≡◌, ℕ, ◌+◌, ◌≤◌, if◌then◌else◌, List, [], ◌∷◌, ◌++◌, length, reverse, slice_index_or}
use Rattle.std.specs.List.{AllByRecursion}
use mathlib.Core.List.{IsPrefix}
use Rattle.ghost_log.specs.declared.tokens.Log.{Log}
use Rattle.ghost_log.specs.declared.tokens.Prefix.{Prefix}
use Rattle.ghost_log.specs.declared.tokens.ClosedLog.{ClosedLog}
use Rattle.board_terms.specs.declared.config.Config.{Config}
use Rattle.board_terms.specs.declared.op.Actor.{Actor}
use Rattle.board_terms.specs.declared.op.Actor.TheVariants.{Hart, Clock}
use Rattle.board_core.specs.Course.{Course}
use Rattle.board_core.specs.Cuts.{IsOpened}
use Rattle.board_core.specs.History.{Event}
use Rattle.board_terms.specs.Limits.{IsGood}
use Rattle.board_core.specs.Opening.{Opening}
use Rattle.board_core.specs.Replies.{IsLegal}
use Rattle.board_lock.specs.Events.{IsActor, events_in, is_same}
use Rattle.board_lock.specs.Receipts.{AcceptedCall}
use Rattle.board_lock.specs.Inside.Rests.{IsRests}
use Rattle.board_lock.specs.declared.rests.Rests.{Rests}

-- an actor's number: a hart's id, or for the clock the number of harts
abbrev pub number_of : Config → Actor → ℕ
number_of c (Hart h) = h
number_of c Clock = c.harts

-- the number of the actor's events
abbrev pub count_of : Actor → List Event → ℕ
count_of a [] = 0
count_of a (e ∷ es) = (if is_same a e.actor then 1 else 0) + count_of a es

-- The counts under the lock: the events of each actor, by its number, the total of the ledger's book, and the parts
-- that are left of the ledger, with their amount.
pub record Tally : Type 0 where
  pub counts : List ℕ
  pub total : ℕ
  pub parts : ℕ
  pub amount : ℕ

abbrev pub tally : List ℕ → (total parts amount : ℕ) → Tally
tally counts total parts amount = record { counts = counts; total = total; parts = parts; amount = amount }

-- The invariant of the lock. The board has the room's opening, whose numbers are within the limits. The log is the
-- board's history, and the ledger's total its length. Each actor's count is that of its events, and only actors have
-- events. The resting seats are the board's. Nothing is left of the ledger.
pub record IsDesk (opening : Opening) (room : ℕ) (board : Course) (rests : Rests) (t : Tally) (log : Log Event)
    : Type 0 where
  pub good : IsGood opening.config
  pub opened : board.opening ≡ opening
  pub named : log.name ≡ room
  pub logged : log.list ≡ events_in board
  pub summed : t.total ≡ length log.list
  pub sized : length t.counts ≡ opening.config.harts + 1
  pub counted : (a : Actor) → IsActor opening.config a
      → slice_index_or t.counts (number_of opening.config a) 0 ≡ count_of a log.list
  pub acted : AllByRecursion (λ (e : Event). IsActor opening.config e.actor) log.list
  pub at_rest : IsRests opening.config.harts rests
  pub no_parts : t.parts ≡ 0
  pub no_amount : t.amount ≡ 0

-- The counts of a seat: its actor, its accepted calls, and its parts of the ledger, with their amount.
pub record Counter : Type 0 where
  pub actor : Actor
  pub count : ℕ
  pub parts : ℕ
  pub amount : ℕ

abbrev pub counter : Actor → (count parts amount : ℕ) → Counter
counter actor count parts amount = record { actor = actor; count = count; parts = parts; amount = amount }

-- The invariant of a seat. Its actor is one of the board's. It has one part of the ledger, whose amount is its count.
-- At its last accepted call it had seen as many events of its own, and it hasn't looked earlier than that since.
pub record IsSeated (c : Config) (room : ℕ) (s : Counter) (seen last : Prefix Event) : Type 0 where
  pub acting : IsActor c s.actor
  pub one_part : s.parts ≡ 1
  pub counted : s.amount ≡ s.count
  pub named : seen.name ≡ room
  pub saw : count_of s.actor seen.list ≡ s.count
  pub last_named : last.name ≡ room
  pub later : IsPrefix seen.list last.list

-- The invariant of a receipt: its event was the last of the events seen, the first of which had the place `first`.
pub record IsReceiptOf (first room : ℕ) (t : AcceptedCall) (seen : Prefix Event) : Type 0 where
  pub before : List Event
  pub event : Event
  pub named : seen.name ≡ room
  pub last : seen.list ≡ before ++ event ∷ []
  pub by : event.actor ≡ t.actor
  pub asked : event.op ≡ t.op
  pub answered : event.reply ≡ t.reply
  pub placed : first + length before ≡ t.place
  pub counted : count_of t.actor before ≡ t.ordinal

-- The room's log has these events.
pub record IsKeptLog (room : ℕ) (log : ClosedLog Event) (events : List Event) : Type 0 where
  pub named : log.name ≡ room
  pub logged : log.list ≡ events

-- The invariant of a record: the board has the room's opening, and the log is its history.
pub record IsRecord (opening : Opening) (room : ℕ) (board : Course) (log : ClosedLog Event) : Type 0 where
  pub opened : board.opening ≡ opening
  pub kept : IsKeptLog room log (events_in board)

-- The invariant of a past: it has the room's opening, which a board can reach; its events are a legal history within
-- the limit; and the log has these events.
pub record IsPast (opening : Opening) (room : ℕ) (began : Opening) (events : List Event) (log : ClosedLog Event)
    : Type 0 where
  pub opened : began ≡ opening
  pub good : IsGood began.config
  pub comes : IsOpened began
  pub legal : IsLegal began (reverse events)
  pub within : length events ≤ began.config.limit
  pub kept : IsKeptLog room log events
