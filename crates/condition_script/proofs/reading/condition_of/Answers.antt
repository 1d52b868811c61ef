use Rattle.std.proofs.Common.{ap, ◌∙◌}
use Rattle.condition_script.specs.Inside.Reading.{texts}
use Rattle.condition_script.proofs.reading.condition_of.Goals as goal

pub condition_in-requires-clause-words : goal.condition_in-requires-clause-words
condition_in-requires-clause-words c = ap texts c.deref.ensures.value ∙ c.in_ok-words.ensures
