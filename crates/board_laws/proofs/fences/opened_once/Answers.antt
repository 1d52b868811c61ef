use Rattle.board_laws.proofs.Once.{opened_once}
use Rattle.board_laws.proofs.fences.opened_once.Goals as goal

pub returns : goal.returns
returns c = opened_once
