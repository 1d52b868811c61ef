use Rattle.script_tasks.proofs.Checked.{Checking}
use Rattle.script_tasks.proofs.checking.first_difference.Given as goal

abbrev pub invariant-loop-line : goal.invariant-loop-line
invariant-loop-line l = record {
  can_next : (goal.iterator-loop-line).can_next l.line-iterator;
  is_finite : (goal.iterator-loop-line).is_finite l.line-iterator;
  checking : Checking l.initial.board l.board l.lines l.line-iterator;
}
