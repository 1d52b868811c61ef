use Rattle.fence_queue.proofs.Kept.{after-drain}
use Rattle.fence_queue.proofs.queues.Queues.drain.Goals as goal

pub invariant_of-self : goal.invariant_of-self
invariant_of-self g c =
    (after-drain c.self.inside.rings.items c.self.inside.total c.self.invariant _ c.self.view_is c.args.t c.requires c.index_mut.result.now c.index_mut.ensures.value
    _ c.len.result c.len.ensures.count c.clear.ensures).0

pub returns : goal.returns
returns g c =
    (after-drain c.self.inside.rings.items c.self.inside.total c.self.invariant _ c.self.view_is c.args.t c.requires c.index_mut.result.now c.index_mut.ensures.value
    _ c.len.result c.len.ensures.count c.clear.ensures).1
