use Rattle.conditions.proofs.Unheld.{RightBefore}
use Rattle.conditions.proofs.misfits.behind_said.Given as goal

abbrev pub invariant-loop-place : goal.invariant-loop-place
invariant-loop-place l = RightBefore l.harts l.p l.said l.place
