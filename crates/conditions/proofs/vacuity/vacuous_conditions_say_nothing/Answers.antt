use Rattle.conditions.proofs.Saying.{says-nothing}
use Rattle.conditions.proofs.vacuity.vacuous_conditions_say_nothing.Goals as goal

pub returns : goal.returns
returns c = says-nothing
