use Rattle.std.proofs.Common.{◌≡◌, drop}
use Rattle.condition_script.specs.Grammar.{from_comment}
use Rattle.condition_script.proofs.columns.from_comment.Given as goal

abbrev pub invariant-loop-i : goal.invariant-loop-i
invariant-loop-i l = from_comment (drop l.i l.text) ≡ from_comment l.text
