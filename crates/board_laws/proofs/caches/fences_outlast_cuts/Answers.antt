use Rattle.board_laws.proofs.OpenCalls.{fences_outlast_cuts}
use Rattle.board_laws.proofs.caches.fences_outlast_cuts.Goals as goal

pub returns : goal.returns
returns c = fences_outlast_cuts
