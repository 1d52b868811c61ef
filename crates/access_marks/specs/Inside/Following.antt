-- A board that follows a record.
use Rattle.std.specs.Prelude.{◌≡◌, Bool, List, Ok}
use Rattle.board_core.specs.Accesses.{used_by_actor}
use Rattle.board_core.specs.Course.{Course}
use Rattle.board_core.specs.History.{Event}
use Rattle.board_core.specs.Opening.{Opening}
use Rattle.board_core.specs.Replies.{answer}
use Rattle.tlb_watch.specs.declared.hart_address.HartAddress.{HartAddress}

-- The board's course, the addresses that are watched, and whether walks are logged.
pub record Following : Type 0 where
  pub course : Course
  pub addresses : List HartAddress
  pub walks : Bool

-- The event is the step that the board makes of its actor and operation after a history.
pub record IsNext (o : Opening) (past : List Event) (event : Event) : Type 0 where
  pub answered : answer o past event.actor event.op ≡ Ok event.reply
  pub uses : event.translation ≡ used_by_actor o past event.actor event.op
