use Rattle.board_laws.proofs.Reached.{fences_strike}
use Rattle.board_laws.proofs.caches.fences_strike.Goals as goal

pub returns : goal.returns
returns c = fences_strike
