use Rattle.board_laws.proofs.Again.{recorded_is_recomputed}
use Rattle.board_laws.proofs.record.recorded_is_recomputed.Goals as goal

pub returns : goal.returns
returns c = recorded_is_recomputed
