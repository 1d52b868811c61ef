use Rattle.board_laws.proofs.Counted.{applied_is_counted}
use Rattle.board_laws.proofs.fences.applied_is_counted.Goals as goal

pub returns : goal.returns
returns c = applied_is_counted
