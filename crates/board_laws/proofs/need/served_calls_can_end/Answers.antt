use Rattle.board_core.proofs.Needs.{can-end}
use Rattle.board_laws.proofs.need.served_calls_can_end.Goals as goal

pub returns : goal.returns
returns c = can-end
