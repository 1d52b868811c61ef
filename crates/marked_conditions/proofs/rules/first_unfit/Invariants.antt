use Rattle.marked_conditions.proofs.Firsts.{AnswerBefore}
use Rattle.marked_conditions.proofs.rules.first_unfit.Given as goal

abbrev pub invariant-loop-k : goal.invariant-loop-k
invariant-loop-k l = AnswerBefore l.p l.events l.marks l.k
