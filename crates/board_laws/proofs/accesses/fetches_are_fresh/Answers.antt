use Rattle.board_laws.proofs.Fresh.{fetches_are_fresh}
use Rattle.board_laws.proofs.accesses.fetches_are_fresh.Goals as goal

pub returns : goal.returns
returns c = fetches_are_fresh
