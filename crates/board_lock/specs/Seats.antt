-- Seats: each is the right of one actor to make calls (profile).
use Rattle.std.specs.Prelude.{◌≡◌, ℕ, ◌+◌, if◌then◌else◌, List, [], ◌∷◌, ◌++◌, length, map}
use Rattle.board_terms.specs.declared.config.Config.{Config}
use Rattle.board_terms.specs.declared.op.Actor.{Actor}
use Rattle.board_terms.specs.declared.op.Actor.TheVariants.{Hart, Clock}
use Rattle.board_terms.specs.declared.op.Op.{Op}
use Rattle.board_core.specs.Course.{harts_of}
use Rattle.board_core.specs.History.{Event}
use Rattle.board_lock.specs.Events.{IsActor, is_same}

-- The model of a seat: its actor, the number of its accepted calls, their operations, in order, and the events when it
-- last looked: in a call, a view or a rest.
pub record Sitting : Type 0 where
  pub actor : Actor
  pub count : ℕ
  pub ops : List Op
  pub saw : List Event

abbrev pub sitting : Actor → ℕ → List Op → List Event → Sitting
sitting actor count ops saw = record { actor = actor; count = count; ops = ops; saw = saw }

-- the seat after it saw these events
abbrev pub seeing : Sitting → List Event → Sitting
seeing s saw = sitting s.actor s.count s.ops saw

-- The seats of a board that is put behind a lock: the harts' in order, then the clock's. No call was made.
abbrev pub new_seats : Config → List Sitting
new_seats c = map (λ h. sitting (Hart h) 0 [] []) (harts_of c) ++ sitting Clock 0 [] [] ∷ []

-- the number of the actor's seats
abbrev pub seats_of : Actor → List Sitting → ℕ
seats_of a [] = 0
seats_of a (s ∷ ss) = (if is_same s.actor a then 1 else 0) + seats_of a ss

-- There is one seat for each actor of the board.
pub record IsOneEach (c : Config) (seats : List Sitting) : Type 0 where
  pub as_many : length seats ≡ c.harts + 1
  pub one_each : (a : Actor) → IsActor c a → seats_of a seats ≡ 1
