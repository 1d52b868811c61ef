use Rattle.marked_conditions.proofs.Telling.{matched-tells}
use Rattle.marked_conditions.proofs.laws.what_tells_nothing_matches_nothing.Goals as goal

pub returns : goal.returns
returns c = matched-tells
