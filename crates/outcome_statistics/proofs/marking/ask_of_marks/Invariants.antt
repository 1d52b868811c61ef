use Rattle.marked_conditions.specs.Marked.{asks_of_marks}
use Rattle.outcome_statistics.proofs.Asking.{NoneAsks}
use Rattle.outcome_statistics.proofs.marking.ask_of_marks.Given as goal

abbrev pub invariant-loop-condition : goal.invariant-loop-condition
invariant-loop-condition l = NoneAsks asks_of_marks l.conditions l.condition-index
