use Rattle.std.proofs.Common.{◌≡◌, [], replicate}
use Rattle.circular_buffer.specs.Buffer.{buffer}
use Rattle.fence_queue.proofs.queues.Queues.new.Given as goal

abbrev pub invariant-loop : goal.invariant-loop
invariant-loop g l = l.rings.items ≡ replicate l.counter (buffer [] l.room)
