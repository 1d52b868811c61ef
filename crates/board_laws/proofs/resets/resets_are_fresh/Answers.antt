use Rattle.board_laws.proofs.AfterResets.{resets_are_fresh}
use Rattle.board_laws.proofs.resets.resets_are_fresh.Goals as goal

pub returns : goal.returns
returns c = resets_are_fresh
