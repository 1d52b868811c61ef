use Rattle.board_laws.proofs.Reached.{fenced_is_gone}
use Rattle.board_laws.proofs.caches.fenced_is_gone.Goals as goal

pub returns : goal.returns
returns c = fenced_is_gone
