-- The events of one actor (profile).
use Rattle.std.specs.Prelude.{◌≡◌, ℕ, ◌+◌, ◌<◌, ◌==◌, Bool, true, false, if◌then◌else◌, List, [], ◌∷◌, map, reverse, Some, slice_get}
use Rattle.board_terms.specs.declared.config.Config.{Config}
use Rattle.board_terms.specs.declared.op.Actor.{Actor}
use Rattle.board_terms.specs.declared.op.Actor.TheVariants.{Hart, Clock}
use Rattle.board_terms.specs.declared.op.Op.{Op}
use Rattle.board_core.specs.Course.{Course}
use Rattle.board_core.specs.History.{Event}

-- An actor of a board: one of its harts, or the clock.
abbrev pub IsActor : Config → Actor → Type 0
IsActor c (Hart h) = h < c.harts
IsActor c Clock = Unit {0}

-- whether two actors are the same
abbrev pub is_same : Actor → Actor → Bool
is_same (Hart h) (Hart n) = h == n
is_same (Hart h) Clock = false
is_same Clock (Hart n) = false
is_same Clock Clock = true

-- The history: the accepted events, oldest first.
abbrev pub events_in : Course → List Event
events_in b = reverse b.past

-- The events of an actor, in order, with their places; the list begins at place n.
abbrev pub events_from : ℕ → Actor → List Event → List (ℕ × Event)
events_from n a [] = []
events_from n a (e ∷ es) = if is_same a e.actor then (n, e) ∷ events_from (n + 1) a es else events_from (n + 1) a es

-- The events of an actor, in order, each with the number of the list's events before it.
abbrev pub events_of : Actor → List Event → List (ℕ × Event)
events_of a es = events_from 0 a es

-- The events of an actor in a board's history, in order, with their places among all events of the board since the
-- first opening.
abbrev pub placed_of : Course → Actor → List (ℕ × Event)
placed_of b a = events_from b.opening.places a (events_in b)

-- The event stands at this place among all events of the board: the history begins at the opening's place.
abbrev pub StandsAt : Course → (place : ℕ) → Event → Type 0
StandsAt b place e = (index : ℕ) × (place ≡ b.opening.places + index) × (slice_get (events_in b) index ≡ Some e)

-- The operations of an actor's events, in order.
abbrev pub ops_of : Actor → List Event → List Op
ops_of a es = map (λ placed. placed.1.op) (events_of a es)
