-- Where the guests of a board's harts are.
use Rattle.std.specs.Prelude.{◌≡◌, ℕ, ◌<◌, List, Option, get_or, length}
use Rattle.board_core.specs.History.{Event}
use Rattle.outcome_statistics.specs.declared.visits.Spot.{Spot}
use Rattle.outcome_statistics.specs.Visits.{spot_of}

-- Each guest of this many harts is where the history has brought it.
pub record AreGuests (harts : ℕ) (past : List Event) (guests : List (Option Spot)) : Type 0 where
  pub many : length guests ≡ harts
  pub each : (h : ℕ) (d : Option Spot) → h < harts → get_or guests h d ≡ spot_of past h
