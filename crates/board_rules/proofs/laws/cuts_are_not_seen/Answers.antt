use Rattle.board_rules.proofs.Unseen.{unseen}
use Rattle.board_rules.proofs.laws.cuts_are_not_seen.Goals as goal

pub returns : goal.returns
returns c = unseen
