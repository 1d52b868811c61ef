use Rattle.std.proofs.Common.{◌≡◌, take}
use Rattle.condition_script.specs.Grammar.{with_commas}
use Rattle.condition_script.specs.Inside.Reading.{texts}
use Rattle.condition_script.proofs.words.with_commas.Given as goal

abbrev pub invariant-loop-word : goal.invariant-loop-word
invariant-loop-word l = texts l.found.items ≡ with_commas (texts (take l.word-index l.words))
