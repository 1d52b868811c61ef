-- The model of a board: its opening and its kept history (profile).
use Rattle.std.specs.Prelude.{ℕ, List, Bool, false, ◌==◌}
use Rattle.std.specs.List.{range_with_len}
use Rattle.board_terms.specs.declared.config.Config.{Config}
use Rattle.board_terms.specs.declared.op.Actor.{Actor}
use Rattle.board_terms.specs.declared.op.Actor.TheVariants.{Hart, Clock}
use Rattle.board_rules.specs.History.{Event}
use Rattle.board_rules.specs.Opening.{Opening}

-- The past is the list of events accepted since the opening, newest first. So the events before an event are the rest
-- of the list, and before them stands the opening.
pub record Course : Type 0 where
  pub opening : Opening
  pub past : List Event

-- the ids of the harts
abbrev pub harts_of : Config → List ℕ
harts_of c = range_with_len 0 c.harts

-- whether hart h is the actor
abbrev pub is_hart : ℕ → Actor → Bool
is_hart h (Hart n) = h == n
is_hart h Clock = false
