use Rattle.std.proofs.Common.{◌≡◌, ◌++◌, length}
use Rattle.line_words.specs.Values.{words_in}
use Rattle.condition_script.specs.Inside.Reading.{texts}
use Rattle.condition_script.proofs.words.words.Given as goal

abbrev pub invariant-loop-word : goal.invariant-loop-word
invariant-loop-word l = texts l.front ++ words_in l.text ≡ texts l.found.items ++ words_in l.rest

abbrev pub decreases-loop-word : goal.decreases-loop-word
decreases-loop-word l = length l.rest
