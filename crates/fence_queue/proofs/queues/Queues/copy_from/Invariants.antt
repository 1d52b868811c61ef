use Rattle.std.proofs.Common.{◌≡◌, ◌-◌, length}
use Rattle.std.specs.List.{All}
use Rattle.circular_buffer.specs.Buffer.{Buffer}
use Rattle.fence_queue.specs.declared.request.Request.{Request}
use Rattle.fence_queue.proofs.Copies.{AreCopied}
use Rattle.fence_queue.proofs.queues.Queues.copy_from.Given as goal

abbrev pub invariant-loop-t : goal.invariant-loop-t
invariant-loop-t g l = record {
  long : length l.self-inside.rings.items ≡ length l.from-inside.rings.items;
  room : All (λ (ring : Buffer (Request g.row.F.Denot)). ring.capacity ≡ length l.from-inside.rings.items - 1) l.self-inside.rings.items;
  copied : AreCopied l.self-inside.rings.items l.from-inside.rings.items l.t;
}
