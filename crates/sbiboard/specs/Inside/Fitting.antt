-- Events whose lines are lines of a trace: each of their numbers has a place there (profile).
use Rattle.std.specs.Prelude.{Ok}
use Rattle.board_core.specs.History.{Event}
use Rattle.script_tasks.specs.PrintedScripts.{FitsAnswer, FitsOp}

-- the numbers of an event's operation and of its reply fit registers
pub record EventFits (e : Event) : Type 0 where
  pub op : FitsOp e.op
  pub answer : FitsAnswer (Ok e.reply)
