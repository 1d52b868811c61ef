use Rattle.condition_script.specs.Inside.Reading.{texts}
use Rattle.condition_script.proofs.GoingOn.{NoneGoesOn}
use Rattle.condition_script.proofs.beginnings.goes_on_by.Given as goal

abbrev pub invariant-loop-more : goal.invariant-loop-more
invariant-loop-more l = NoneGoesOn (texts l.words) l.completions l.more-index
