use Rattle.board_rules.proofs.Cutting.{opens-cut}
use Rattle.board_rules.proofs.laws.cuts_open_boards.Goals as goal

pub returns : goal.returns
returns c = opens-cut
