-- The places of a history (profile). The place of an event, counted from 0, is the number of events before it since the
-- first opening.
use Rattle.std.specs.Prelude.{◌≡◌, ℕ, ◌-◌, ◌≤◌, List, ◌∷◌, ◌++◌, drop, Some}
use Rattle.board_core.specs.Opening.{Opening, place_after}
use Rattle.board_terms.specs.declared.op.Actor.TheVariants.{Hart}
use Rattle.board_core.specs.History.{Event, Reach, access_of}

-- The history at a place: the events of lower places.
abbrev pub past_at : Opening → List Event → (place : ℕ) → List Event
past_at o past place = drop (place_after o past - place) past

-- The event at this place: it came after the opening and the history at the place; later events may follow.
pub record IsAtPlace (o : Opening) (past : List Event) (place : ℕ) (event : Event) : Type 0 where
  pub since : o.places ≤ place
  pub newer : List Event
  pub made : past ≡ newer ++ event ∷ past_at o past place

-- The event at this place is an access by hart t.
pub record Accesses (o : Opening) (past : List Event) (place t : ℕ) (reach : Reach) : Type 0 where
  pub event : Event
  pub happened : IsAtPlace o past place event
  pub by_hart : event.actor ≡ Hart t
  pub access : access_of event.op ≡ Some reach
