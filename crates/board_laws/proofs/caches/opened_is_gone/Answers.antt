use Rattle.board_laws.proofs.OpenCalls.{opened_is_gone}
use Rattle.board_laws.proofs.caches.opened_is_gone.Goals as goal

pub returns : goal.returns
returns c = opened_is_gone
