use Rattle.std.proofs.Common.{◌≡◌}
use Rattle.condition_script.specs.FirstFault.{behind_words}
use Rattle.condition_script.proofs.columns.behind_words.Given as goal

abbrev pub invariant-loop-left : goal.invariant-loop-left
invariant-loop-left l = behind_words l.left l.rest ≡ behind_words l.many l.text

abbrev pub decreases-loop-left : goal.decreases-loop-left
decreases-loop-left l = l.left
