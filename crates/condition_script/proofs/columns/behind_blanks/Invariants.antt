use Rattle.std.proofs.Common.{◌≡◌, drop}
use Rattle.condition_script.specs.Grammar.{behind_blanks}
use Rattle.condition_script.proofs.columns.behind_blanks.Given as goal

abbrev pub invariant-loop-i : goal.invariant-loop-i
invariant-loop-i l = behind_blanks (drop l.i l.text) ≡ behind_blanks l.text
