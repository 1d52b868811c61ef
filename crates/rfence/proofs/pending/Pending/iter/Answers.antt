use Rattle.std.proofs.Common.{length, ap, sym, arith}
use Rattle.rfence.proofs.ByCaller.{IsQueue-by, length-by, queue_at-by}
use Rattle.fence_queue.specs.Queues.{queue_at}
use Rattle.rfence.proofs.pending.Pending.iter.Goals as goal

pub returns-clause-queue : goal.returns-clause-queue
returns-clause-queue g c =
    let fences = c.self.inside.fences.items in
    let idle = c.self.inside.idle in
    let callers = c.self.inside.callers in
    let long = length-by fences idle callers in
    rw (sym c.self.view_is, long, queue_at-by fences idle callers c.args.t (omega (arith, c.requires, long, ap length c.self.view_is)))
    (IsQueue-by fences idle (length callers) c.args.t (queue_at callers c.args.t) c.iter.ensures.queue)
