use Rattle.board_core.proofs.Needs.{needed-accepted}
use Rattle.board_laws.proofs.need.needed_serves_are_accepted.Goals as goal

pub returns : goal.returns
returns c = needed-accepted
