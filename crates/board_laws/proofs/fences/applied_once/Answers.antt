use Rattle.board_laws.proofs.Once.{applied_once}
use Rattle.board_laws.proofs.fences.applied_once.Goals as goal

pub returns : goal.returns
returns c = applied_once
