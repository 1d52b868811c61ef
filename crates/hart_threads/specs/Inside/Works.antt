-- What a thread knows about its actor while it works: private. A seat's count is that of its actor's events in the
-- whole record. So what is known after as many were seen holds for the record.
use Rattle.std.specs.Prelude.{◌≡◌, ◌≢◌, ◌⊎◌, ℕ, ◌≤◌, Bool, false, List, [], ◌∷◌, length, reverse}
use mathlib.Core.List.{IsSuffix}
use Rattle.board_terms.specs.declared.config.Config.{Config}
use Rattle.board_terms.specs.declared.op.Actor.{Actor}
use Rattle.board_terms.specs.declared.op.Actor.TheVariants.{Hart, Clock}
use Rattle.board_terms.specs.declared.op.Op.{Op}
use Rattle.board_terms.specs.declared.reply.Refusal.{Refusal}
use Rattle.board_terms.specs.declared.reply.Refusal.TheVariants.{HistoryFull}
use Rattle.board_core.specs.History.{Event}
use Rattle.board_core.specs.Opening.{Opening}
use Rattle.board_lock.specs.Events.{IsActor}
use Rattle.board_lock.specs.Receipts.{AcceptedCall}
use Rattle.board_lock.specs.Seats.{Sitting, sitting}
use Rattle.guest_programs.specs.declared.met.Met.{Met}
use Rattle.guest_programs.specs.declared.met.Met.TheVariants.{Nothing, FullHistory, ClosedGate}
use Rattle.guest_programs.specs.Guests.{IsAt, Next, Rest}
use Rattle.guest_programs.specs.Met.{met_by_both}
use Rattle.hart_threads.specs.Shares.{ChoosesNone, EachOf, IsDue, WasTold, IsTurn, Refuses, gate_number, many_of}

-- the task of a run's threads: its gate's answers and what the gate is told, its board's opening, its guests and its clock's ticks
pub record Task : Type 1 where
  pub lets : ℕ → ℕ → Bool → Type 0
  pub heard : AcceptedCall → Type 0
  pub opening : Opening
  pub guests : Next
  pub ticks : List ℕ

abbrev pub task : (ℕ → ℕ → Bool → Type 0) → (AcceptedCall → Type 0) → Opening → Next → List ℕ → Task
task lets heard opening guests ticks = record { lets = lets; heard = heard; opening = opening; guests = guests; ticks = ticks }

-- A seat counts n events of actor a, and saw this past: it has a prefix with at least n of them, after which P holds if
-- there are exactly n.
pub record At (a : Actor) (n : ℕ) (past : List Event) (P : List Event → Type 0) : Type 0 where
  pub seen : List Event
  pub earlier : IsSuffix seen past
  pub no_fewer : n ≤ many_of a seen
  pub holds : many_of a seen ≡ n → P seen

-- why an actor's thread did no more, if it met nothing
abbrev pub SeesNoMore : Task → Actor → (n : ℕ) → List Event → Type 0
SeesNoMore t (Hart h) n past = At (Hart h) n past (ChoosesNone t.opening t.guests h)
SeesNoMore t Clock n past =
    (n ≡ length t.ticks)
    ⊎ ((op : Op) × (r : Refusal) × (r ≢ HistoryFull) × At Clock n past (Refuses t.opening t.guests t.ticks Clock op r))

-- why an actor's thread stopped, by what it met
abbrev pub Stops : Task → Actor → (n : ℕ) → List Event → Met → Type 0
Stops t a n past ClosedGate = t.lets (gate_number t.opening.config a) n false
Stops t a n past FullHistory = (op : Op) × At a n past (Refuses t.opening t.guests t.ticks a op HistoryFull)
Stops t a n past Nothing = SeesNoMore t a n past

-- what is known about what it met so far
abbrev pub HasMet : Task → Actor → (n : ℕ) → List Event → Met → Type 0
HasMet t a n past Nothing = Unit {0}
HasMet t a n past FullHistory = Stops t a n past FullHistory
HasMet t a n past ClosedGate = Stops t a n past ClosedGate

-- Each event of the seat's actor that the seat saw was due, and the gate told of it.
pub record IsAtWork (t : Task) (a : Actor) (n : ℕ) (past : List Event) : Type 0 where
  pub no_fewer : n ≤ many_of a past
  pub due : many_of a past ≡ n → EachOf (IsDue t.lets t.opening t.guests t.ticks a) a past
  pub told : many_of a past ≡ n → EachOf (WasTold t.heard t.opening) a past

-- `rest` is what the guest of a hart's seat does from here on
abbrev pub IsAtSeat : Next → Rest → List Event → Actor → Type 0
IsAtSeat guests rest past (Hart h) = IsAt rest guests past h
IsAtSeat guests rest past Clock = Unit {0}

-- The thread is at work, met this so far, and knows what its guest does from here on.
pub record IsGoing (t : Task) (a : Actor) (n : ℕ) (past : List Event) (rest : Rest)
    (met : Met) : Type 0 where
  pub work : IsAtWork t a n past
  pub rest_is : many_of a past ≡ n → IsAtSeat t.guests rest past a
  pub met_is : HasMet t a n past met

-- The thread has ended its work, and stopped for what it met.
pub record HasWorked (t : Task) (a : Actor) (n : ℕ) (past : List Event) (met : Met) : Type 0 where
  pub acting : IsActor t.opening.config a
  pub work : IsAtWork t a n past
  pub stopped : Stops t a n past met

-- the same for a seat
abbrev pub Goes : Task → Sitting → Rest → Met → Type 0
Goes t s rest met = IsGoing t s.actor s.count (reverse s.saw) rest met

abbrev pub WorkedAt : Task → Sitting → Met → Type 0
WorkedAt t s met = HasWorked t s.actor s.count (reverse s.saw) met

-- an operation is its actor's turn until the actor's next event
abbrev pub HasTurn : Task → Actor → (n : ℕ) → (seen : List Event) → Op → Type 0
HasTurn t a n seen op = (past : List Event) → IsSuffix seen past → many_of a past ≡ n
    → IsTurn t.opening t.guests t.ticks a op past

-- what all threads met together
abbrev pub met_by_all : List Met → Met
met_by_all [] = Nothing
met_by_all (m ∷ ms) = met_by_both m (met_by_all ms)

-- a gate gives only answers that the plan allows, and is told only of calls that the plan allows
abbrev pub IsGate : (lets plan : ℕ → ℕ → Bool → Type 0) → (heard planned : AcceptedCall → Type 0) → Type 0
IsGate lets plan heard planned =
    ((n k : ℕ) (answer : Bool) → lets n k answer → plan n k answer) × ((call : AcceptedCall) → heard call → planned call)

-- a seat of a new board
pub record IsFresh (c : Config) (s : Sitting) : Type 0 where
  pub acting : IsActor c s.actor
  pub is : s ≡ sitting s.actor 0 [] []
