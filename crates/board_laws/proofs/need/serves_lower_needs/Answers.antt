use Rattle.board_core.proofs.Needs.{serve-lowers-needs}
use Rattle.board_laws.proofs.need.serves_lower_needs.Goals as goal

pub returns : goal.returns
returns c = serve-lowers-needs
