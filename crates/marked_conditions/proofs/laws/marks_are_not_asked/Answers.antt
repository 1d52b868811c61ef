use Rattle.marked_conditions.proofs.Bare.{marks_are_not_asked}
use Rattle.marked_conditions.proofs.laws.marks_are_not_asked.Goals as goal

pub returns : goal.returns
returns c = marks_are_not_asked
