use Rattle.condition_script.proofs.Asked.{NumbersUpTo}
use Rattle.condition_script.proofs.pattern_words.numbers.Given as goal

abbrev pub invariant-loop-k : goal.invariant-loop-k
invariant-loop-k l = NumbersUpTo l.words l.most l.k l.initial.found.items l.found.items
