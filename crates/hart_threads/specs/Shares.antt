-- What a run's record shows about its threads: each event was due, and why each thread stopped (profile).
use Rattle.std.specs.Prelude.{◌≡◌, ◌≢◌, ◌⊎◌, ℕ, ◌+◌, Bool, true, false, if◌then◌else◌, List, [], ◌∷◌, length, slice_get, Option, Some, None, Err}
use mathlib.Core.List.{IsSuffix}
use Rattle.board_terms.specs.declared.config.Config.{Config}
use Rattle.board_terms.specs.declared.op.Actor.{Actor}
use Rattle.board_terms.specs.declared.op.Actor.TheVariants.{Hart, Clock}
use Rattle.board_terms.specs.declared.op.Op.{Op}
use Rattle.board_terms.specs.declared.op.Op.TheVariants.{Tick}
use Rattle.board_terms.specs.declared.reply.Refusal.{Refusal}
use Rattle.board_terms.specs.declared.reply.Refusal.TheVariants.{HistoryFull}
use Rattle.board_core.specs.History.{Event}
use Rattle.board_core.specs.Opening.{Opening}
use Rattle.board_core.specs.Replies.{answer}
use Rattle.board_core.specs.Resets.{is_off}
use Rattle.board_lock.specs.declared.views.HartNow.{HartNow}
use Rattle.board_lock.specs.Events.{IsActor, is_same}
use Rattle.board_lock.specs.Receipts.{AcceptedCall, accepted_call}
use Rattle.board_lock.specs.Views.{Shows}
use Rattle.guest_programs.specs.declared.ends.End.{End}
use Rattle.guest_programs.specs.declared.ends.End.TheVariants as ends
use Rattle.guest_programs.specs.declared.ends.End.TheVariants.{GateLimit}
use Rattle.guest_programs.specs.declared.met.Met.{Met}
use Rattle.guest_programs.specs.declared.met.Met.TheVariants.{Nothing, FullHistory, ClosedGate}
use Rattle.hart_threads.specs.Choices.{first_choice}
use Rattle.guest_programs.specs.Guests.{Next, next_op}
use Rattle.guest_programs.specs.Met.{met_by_both}

-- the number of the actor's events
abbrev pub many_of : Actor → List Event → ℕ
many_of a [] = 0
many_of a (e ∷ past) = (if is_same a e.actor then 1 else 0) + many_of a past

-- Each event of the actor has the property, by the events before it.
abbrev pub EachOf : (Event → List Event → Type 0) → Actor → List Event → Type 0
EachOf P a [] = Unit {0}
EachOf P a (e ∷ past) = (is_same a e.actor ≡ true → P e past) × EachOf P a past

-- ---- what a thread does

-- A thread that sees hart h after these events chooses this operation, or none: that of the first row that applies,
-- with its guest's next operation then.
pub record Chooses (o : Opening) (guests : Next) (h : ℕ) (seen : List Event) (choice : Option Op) : Type 0 where
  pub now : HartNow
  pub shows : Shows (record { opening = o; past = seen }) h now
  pub first : first_choice now (next_op guests seen h) ≡ choice

-- P holds after a prefix of these events, since which the actor made none.
pub record Earlier (a : Actor) (past : List Event) (P : List Event → Type 0) : Type 0 where
  pub seen : List Event
  pub earlier : IsSuffix seen past
  pub still : many_of a seen ≡ many_of a past
  pub holds : P seen

-- after these events a hart's thread chooses an operation, with the power on
abbrev pub Picks : Opening → Next → ℕ → Op → List Event → Type 0
Picks o guests h op seen = (is_off o seen ≡ false) × Chooses o guests h seen (Some op)

-- An operation is its actor's turn: a hart chose it when it looked, at some moment since its last event; the clock's is
-- its next tick.
abbrev pub IsTurn : Opening → Next → (ticks : List ℕ) → Actor → Op → List Event → Type 0
IsTurn o guests ticks (Hart h) op past = Earlier (Hart h) past (Picks o guests h op)
IsTurn o guests ticks Clock op past = (n : ℕ) × (slice_get ticks (many_of Clock past) ≡ Some n) × (op ≡ Tick n)

-- an actor's number for a gate: a hart's id, or for the clock the number of harts
abbrev pub gate_number : Config → Actor → ℕ
gate_number c (Hart h) = h
gate_number c Clock = c.harts

-- The event was due: the gate allowed it, and it was its actor's turn.
abbrev pub IsDue : (lets : ℕ → ℕ → Bool → Type 0) → Opening → Next → (ticks : List ℕ) → Actor → Event
    → List Event → Type 0
IsDue lets o guests ticks a e past = lets (gate_number o.config a) (many_of a past) true
    × IsTurn o guests ticks a e.op past

-- ---- what the gate was told

-- The gate was told of the event: who made it, how many events of that actor and how many of all came before, the operation and
-- the reply.
abbrev pub WasTold : (heard : AcceptedCall → Type 0) → Opening → Event → List Event → Type 0
WasTold heard o e past = heard (accepted_call e.actor (many_of e.actor past) (o.places + length past) e.op e.reply)

-- The gate was told of each event.
abbrev pub AreTold : (heard : AcceptedCall → Type 0) → Opening → List Event → Type 0
AreTold heard o [] = Unit {0}
AreTold heard o (e ∷ past) = WasTold heard o e past × AreTold heard o past

-- ---- why a thread stopped

-- an operation that was its actor's turn was refused after these events
abbrev pub Refuses : Opening → Next → (ticks : List ℕ) → Actor → Op → Refusal → List Event → Type 0
Refuses o guests ticks a op r seen = IsTurn o guests ticks a op seen × (answer o seen a op ≡ Err r)

-- after these events a hart's thread chooses nothing, or the power is off
abbrev pub ChoosesNone : Opening → Next → ℕ → List Event → Type 0
ChoosesNone o guests h seen = (is_off o seen ≡ true) ⊎ Chooses o guests h seen None

-- The gate answered false when it was asked for the actor's next event.
abbrev pub IsClosed : (lets : ℕ → ℕ → Bool → Type 0) → Opening → List Event → Actor → Type 0
IsClosed lets o past a = lets (gate_number o.config a) (many_of a past) false

-- An operation that was the actor's turn was refused because the history was full.
abbrev pub HasMetFull : Opening → Next → (ticks : List ℕ) → List Event → Actor → Type 0
HasMetFull o guests ticks past a = (op : Op) × Earlier a past (Refuses o guests ticks a op HistoryFull)

-- A hart's thread had nothing to do at some moment since its last event. The clock's thread made all ticks, or its next
-- tick was refused for another reason than a full history.
abbrev pub HasNoMore : Opening → Next → (ticks : List ℕ) → List Event → Actor → Type 0
HasNoMore o guests ticks past (Hart h) = Earlier (Hart h) past (ChoosesNone o guests h)
HasNoMore o guests ticks past Clock =
    (many_of Clock past ≡ length ticks)
    ⊎ ((op : Op) × (r : Refusal) × (r ≢ HistoryFull) × Earlier Clock past (Refuses o guests ticks Clock op r))

-- Why an actor's thread stopped, by what it met.
abbrev pub HasStopped : (lets : ℕ → ℕ → Bool → Type 0) → Opening → Next → (ticks : List ℕ) → List Event → Actor
    → Met → Type 0
HasStopped lets o guests ticks past a ClosedGate = IsClosed lets o past a
HasStopped lets o guests ticks past a FullHistory = HasMetFull o guests ticks past a
HasStopped lets o guests ticks past a Nothing = HasNoMore o guests ticks past a

-- The threads of a run, which met this together. Each event was due, and the gate was told of it. Each thread stopped for
-- what it met, and one of them met what they all met together.
pub record AreThreads (lets : ℕ → ℕ → Bool → Type 0) (heard : AcceptedCall → Type 0) (o : Opening) (guests : Next)
    (ticks : List ℕ) (past : List Event) (met : Met) : Type 0 where
  pub due : (a : Actor) → IsActor o.config a → EachOf (IsDue lets o guests ticks a) a past
  pub told : (a : Actor) → IsActor o.config a → EachOf (WasTold heard o) a past
  pub stopped : (a : Actor) → IsActor o.config a
      → (m : Met) × (met_by_both m met ≡ met) × HasStopped lets o guests ticks past a m
  pub met_by : (a : Actor) × IsActor o.config a × HasStopped lets o guests ticks past a met

-- The end of a run in which a thread met a full history: neither quiet nor stuck.
abbrev pub IsOverFull : End → Type 0
IsOverFull end = (end ≢ ends.Quiet) × (end ≢ ends.Stuck)

-- The threads of a run with this end. Each event of an actor was due. Each thread stopped because its gate closed, which
-- is then the end; because the history was full; or because it had nothing more to do (`HasNoMore`). If the run ended by
-- a gate or a full history, some thread met it.
pub record IsRun (lets : ℕ → ℕ → Bool → Type 0) (o : Opening) (guests : Next) (ticks : List ℕ)
    (past : List Event) (end : End) : Type 0 where
  pub due : (a : Actor) → IsActor o.config a → EachOf (IsDue lets o guests ticks a) a past
  pub stopped : (a : Actor) → IsActor o.config a →
      (IsClosed lets o past a × (end ≡ GateLimit))
      ⊎ (HasMetFull o guests ticks past a × IsOverFull end)
      ⊎ HasNoMore o guests ticks past a
  pub closed : end ≡ GateLimit → (a : Actor) × IsActor o.config a × IsClosed lets o past a
  pub full : end ≡ ends.HistoryFull → (a : Actor) × IsActor o.config a × HasMetFull o guests ticks past a
