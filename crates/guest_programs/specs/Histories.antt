-- Histories of programs (profile).
use Rattle.std.specs.Prelude.{List}
use Rattle.board_core.specs.History.{Event}
use Rattle.board_core.specs.Opening.{Opening}
use Rattle.board_core.specs.Replies.{IsLegal}
use Rattle.guest_programs.specs.Steps.{AreOwn, Task}

-- A history of this program: it is legal, and each event was its actor's own.
pub record IsHistory (o : Opening) (p : Task) (past : List Event) : Type 0 where
  pub legal : IsLegal o past
  pub own : AreOwn p past
