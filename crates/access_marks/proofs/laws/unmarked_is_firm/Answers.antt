use Rattle.access_marks.proofs.MarkedSteps.{unmarked_is_firm}
use Rattle.access_marks.proofs.laws.unmarked_is_firm.Goals as goal

pub returns : goal.returns
returns c = unmarked_is_firm
