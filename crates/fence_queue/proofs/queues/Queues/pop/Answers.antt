use Rattle.std.proofs.Common.{sym, ◌∙◌}
use Rattle.fence_queue.proofs.Kept.{after-pop, some-waits}
use Rattle.fence_queue.proofs.queues.Queues.pop.Goals as goal

pub overflow_sub-self : goal.overflow_sub-self
overflow_sub-self g c =
    some-waits c.self.inside.rings.items c.self.inside.total c.self.invariant _ c.self.view_is c.args.t c.requires c.index_mut.result.now c.index_mut.ensures.value
    c.in_ok-request.request (sym c.pop_first.ensures.value ∙ c.in_ok-request.was)

pub invariant_of-self-2 : goal.invariant_of-self-2
invariant_of-self-2 g c =
    (after-pop c.self.inside.rings.items c.self.inside.total c.self.invariant _ c.self.view_is c.args.t c.requires c.index_mut.result.now c.index_mut.ensures.value
    c.in_ok-request.request _ (sym c.pop_first.ensures.value ∙ c.in_ok-request.was) c.pop_first.ensures.items).0

pub returns-clause-after : goal.returns-clause-after
returns-clause-after g c =
    (after-pop c.self.inside.rings.items c.self.inside.total c.self.invariant _ c.self.view_is c.args.t c.requires c.index_mut.result.now c.index_mut.ensures.value
    c.in_ok-request.request _ (sym c.pop_first.ensures.value ∙ c.in_ok-request.was) c.pop_first.ensures.items).1
