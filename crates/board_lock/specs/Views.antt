-- What a seat sees of its hart, and the answers that it gets, by the events that it last saw (profile).
use Rattle.std.specs.Prelude.{◌≡◌, ◌≢◌, ◌⊎◌, ℕ, List, reverse, length, Option, Some, None, Ok, Err}
use mathlib.Core.List.{IsPrefix}
use Rattle.board_terms.specs.declared.op.Actor.{Actor}
use Rattle.board_terms.specs.declared.op.Actor.TheVariants.{Hart, Clock}
use Rattle.board_terms.specs.declared.op.Op.{Op}
use Rattle.board_terms.specs.declared.reply.Refusal.{Refusal}
use Rattle.board_terms.specs.declared.reply.Refusal.TheVariants.{WrongPhase}
use Rattle.board_terms.specs.declared.reply.Reply.{Reply}
use Rattle.board_core.specs.Course.{Course}
use Rattle.board_core.specs.Fences.{outstanding, waiting}
use Rattle.board_core.specs.History.{Event}
use Rattle.board_core.specs.Interrupts.{wake}
use Rattle.board_core.specs.Opening.{Opening}
use Rattle.board_core.specs.Replies.{answer, stepped}
use Rattle.board_core.specs.Resets.{is_off}
use Rattle.board_core.specs.States.{state}
use Rattle.board_lock.specs.Events.{events_in, events_of}
use Rattle.board_lock.specs.Seats.{Sitting}
use Rattle.board_lock.specs.declared.views.HartNow.{HartNow}
use Rattle.board_lock.specs.declared.views.HartView.{HartView}

-- `now` shows hart h of the board: its state, its fence call, the number of fences that wait there, and its wake.
pub record Shows (b : Course) (h : ℕ) (now : HartNow) : Type 0 where
  pub state : now.state ≡ state b.opening b.past h
  pub outstanding : now.outstanding ≡ outstanding b.opening b.past h
  pub waiting : now.waiting ≡ length (waiting b.opening b.past h)
  pub wake : now.wake ≡ wake b.opening b.past h

-- What is shown to an actor is its hart of the board, and to the clock nothing.
abbrev pub ShowsTo : Course → Actor → Option HartNow → Type 0
ShowsTo b (Hart h) (Some now) = Shows b h now
ShowsTo b (Hart h) None = ⊥
ShowsTo b Clock (Some now) = ⊥
ShowsTo b Clock None = Unit {0}

-- the board of an opening after these events, oldest first
abbrev pub board_after : Opening → List Event → Course
board_after o es = record { opening = o; past = reverse es }

-- A seat's view: its hart, the power, and the number of events, by the events that it last saw.
pub record IsView (o : Opening) (s : Sitting) (v : HartView) : Type 0 where
  pub hart : ShowsTo (board_after o s.saw) s.actor v.hart
  pub power : v.is_off ≡ is_off o (reverse s.saw)
  pub events : v.events ≡ length s.saw

-- A seat's call was refused: the board refuses it after the events that the seat last saw; or it is WrongPhase, and the
-- seat's count isn't that of its actor's events among them.
abbrev pub IsRefused : Opening → Sitting → Op → Refusal → Type 0
IsRefused o s op r = (answer o (reverse s.saw) s.actor op ≡ Err r)
    ⊎ ((length (events_of s.actor s.saw) ≢ s.count) × (r ≡ WrongPhase))

-- A seat's call was accepted: it got the board's answer after some events, which begin with those that the seat had
-- seen. The seat has now seen these events and its own.
pub record IsDone (o : Opening) (old new : Sitting) (op : Op) (reply : Reply) : Type 0 where
  pub before : List Event
  pub later : IsPrefix old.saw before
  pub answered : answer o (reverse before) old.actor op ≡ Ok reply
  pub after : new.saw ≡ events_in (stepped (board_after o before) old.actor op)
