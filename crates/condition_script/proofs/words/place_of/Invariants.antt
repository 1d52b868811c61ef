use Rattle.condition_script.proofs.Asked.{NoneBefore}
use Rattle.condition_script.proofs.words.place_of.Given as goal

abbrev pub invariant-loop-k : goal.invariant-loop-k
invariant-loop-k l = NoneBefore l.mark l.words l.k
