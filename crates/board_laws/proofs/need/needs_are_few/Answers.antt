use Rattle.board_core.proofs.Needs.{are-few}
use Rattle.board_laws.proofs.need.needs_are_few.Goals as goal

pub returns : goal.returns
returns c = are-few
