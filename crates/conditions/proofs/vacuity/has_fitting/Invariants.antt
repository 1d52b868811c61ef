use Rattle.conditions.proofs.Saying.{NoneBefore}
use Rattle.conditions.proofs.vacuity.has_fitting.Given as goal

abbrev pub invariant-loop-event : goal.invariant-loop-event
invariant-loop-event l = NoneBefore l.p l.events l.event-index
