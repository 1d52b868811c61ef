use Rattle.board_core.proofs.Right.{turns_are_right}
use Rattle.board_laws.proofs.fences.turns_are_right.Goals as goal

pub returns : goal.returns
returns c = turns_are_right
