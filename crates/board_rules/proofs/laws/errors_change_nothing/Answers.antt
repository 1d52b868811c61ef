use Rattle.board_rules.proofs.ErrorLaw.{errors_change_nothing}
use Rattle.board_rules.proofs.laws.errors_change_nothing.Goals as goal

pub returns : goal.returns
returns c = errors_change_nothing
