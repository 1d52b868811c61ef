use Rattle.board_laws.proofs.Fresh.{translations_are_fresh}
use Rattle.board_laws.proofs.accesses.translations_are_fresh.Goals as goal

pub returns : goal.returns
returns c = translations_are_fresh
