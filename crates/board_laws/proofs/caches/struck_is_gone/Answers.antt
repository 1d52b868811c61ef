use Rattle.board_laws.proofs.Gone.{struck_is_gone}
use Rattle.board_laws.proofs.caches.struck_is_gone.Goals as goal

pub returns : goal.returns
returns c = struck_is_gone
