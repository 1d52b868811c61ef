use Rattle.conditions.proofs.Unheld.{HeldBefore}
use Rattle.conditions.proofs.misfits.behind_op.Given as goal

abbrev pub invariant-loop-place : goal.invariant-loop-place
invariant-loop-place l = HeldBefore l.p l.op l.place
