use Rattle.board_laws.proofs.Once.{asked_once}
use Rattle.board_laws.proofs.fences.asked_once.Goals as goal

pub returns : goal.returns
returns c = asked_once
