use Rattle.board_core.proofs.Needs.{none-raises-needs}
use Rattle.board_laws.proofs.need.no_step_raises_needs.Goals as goal

pub returns : goal.returns
returns c = none-raises-needs
