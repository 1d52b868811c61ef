use Rattle.std.proofs.Common.{take}
use Rattle.condition_script.specs.Grammar.{AreEndings}
use Rattle.condition_script.specs.Inside.Reading.{texts}
use Rattle.condition_script.proofs.asking.endings.Given as goal

abbrev pub invariant-loop-word : goal.invariant-loop-word
invariant-loop-word l = AreEndings (texts (take l.word-index l.words)) l.found.items
