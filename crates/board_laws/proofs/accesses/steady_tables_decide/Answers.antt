use Rattle.board_laws.proofs.Steady.{steady_tables_decide}
use Rattle.board_laws.proofs.accesses.steady_tables_decide.Goals as goal

pub returns : goal.returns
returns c = steady_tables_decide
