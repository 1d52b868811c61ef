use Rattle.std.proofs.Common.{◌≡◌, take}
use Rattle.fence_queue.proofs.queues.Queues.try_copy.Given as goal

abbrev pub invariant-loop-t : goal.invariant-loop-t
invariant-loop-t g l = l.rings.items ≡ take l.t l.self-inside.rings.items
