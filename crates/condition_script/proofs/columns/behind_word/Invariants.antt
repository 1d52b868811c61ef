use Rattle.std.proofs.Common.{◌≡◌, drop}
use Rattle.condition_script.specs.FirstFault.{behind_word}
use Rattle.condition_script.proofs.columns.behind_word.Given as goal

abbrev pub invariant-loop-i : goal.invariant-loop-i
invariant-loop-i l = behind_word (drop l.i l.text) ≡ behind_word l.text
