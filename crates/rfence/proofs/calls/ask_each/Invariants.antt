use Rattle.std.proofs.Common.{◌≡◌, length}
use Rattle.rfence.specs.Inside.Marks.{CanAsk, requested}
use Rattle.rfence.proofs.calls.ask_each.Given as goal

abbrev pub invariant-loop-t : goal.invariant-loop-t
invariant-loop-t g l = CanAsk l.queues l.left l.request × (requested l.queues l.left l.request ≡ requested l.fn.queues l.fn.targets l.request)

abbrev pub decreases-loop-t : goal.decreases-loop-t
decreases-loop-t g l = length l.left
