use Rattle.std.proofs.Common.{arith}
use Rattle.fence_queue.proofs.Kept.{after-push, total-limit}
use Rattle.fence_queue.proofs.queues.Queues.push.Goals as goal

pub overflow_add-self : goal.overflow_add-self
overflow_add-self g c = omega (arith, total-limit c.self.inside.rings.items c.self.inside.total c.self.invariant)

pub invariant_of-self : goal.invariant_of-self
invariant_of-self g c =
    (after-push c.self.inside.rings.items c.self.inside.total c.self.invariant _ c.self.view_is c.args.t c.requires.in_range c.index_mut.result.now c.index_mut.ensures.value
    c.args.request _ c.requires.caller c.requires.other c.requires.once c.push_back.ensures.items).0

pub returns : goal.returns
returns g c =
    (after-push c.self.inside.rings.items c.self.inside.total c.self.invariant _ c.self.view_is c.args.t c.requires.in_range c.index_mut.result.now c.index_mut.ensures.value
    c.args.request _ c.requires.caller c.requires.other c.requires.once c.push_back.ensures.items).1
