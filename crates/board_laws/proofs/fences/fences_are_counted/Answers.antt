use Rattle.board_laws.proofs.Counted.{fences_are_counted}
use Rattle.board_laws.proofs.fences.fences_are_counted.Goals as goal

pub returns : goal.returns
returns c = fences_are_counted
