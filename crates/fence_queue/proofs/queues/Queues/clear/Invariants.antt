use Rattle.std.proofs.Common.{◌≡◌, ◌-◌, ◌++◌, [], drop, length, replicate}
use Rattle.circular_buffer.specs.Buffer.{buffer}
use Rattle.fence_queue.proofs.queues.Queues.clear.Given as goal

abbrev pub invariant-loop-ring : goal.invariant-loop-ring
invariant-loop-ring g l = l.ring-items ≡ replicate l.ring-index (buffer [] (length l.initial.ring-items - 1)) ++ drop l.ring-index l.initial.ring-items
