use Rattle.std.proofs.Common.{◌≡◌, false, drop}
use Rattle.asm_tokens.specs.Runs.{behind_comment}
use Rattle.asm_tokens.proofs.runs.behind_comment.Given as goal

abbrev pub invariant-loop-i : goal.invariant-loop-i
invariant-loop-i l = behind_comment l.star (drop l.i l.text) ≡ behind_comment false l.text
