use Rattle.board_rules.proofs.StartsLaw.{starts_are_entered}
use Rattle.board_rules.proofs.laws.starts_are_entered.Goals as goal

pub returns : goal.returns
returns c = starts_are_entered
