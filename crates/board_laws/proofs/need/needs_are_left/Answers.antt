use Rattle.board_core.proofs.Needs.{is-left}
use Rattle.board_laws.proofs.need.needs_are_left.Goals as goal

pub returns : goal.returns
returns c = is-left
