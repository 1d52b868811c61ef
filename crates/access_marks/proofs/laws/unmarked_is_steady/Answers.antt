use Rattle.access_marks.proofs.MarkedSteps.{unmarked_is_steady}
use Rattle.access_marks.proofs.laws.unmarked_is_steady.Goals as goal

pub returns : goal.returns
returns c = unmarked_is_steady
