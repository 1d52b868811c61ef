use Rattle.std.proofs.Common.{[], ap, ◌∙◌, arith, replicate}
use Rattle.fence_queue.proofs.Kept.{AreKept-empty, empty-more, queues_of-empty}
use Rattle.fence_queue.proofs.queues.Queues.new.Goals as goal

pub loop-preserved : goal.loop-preserved
loop-preserved g c =
    empty-more c.loop.rings.items _ c.loop.counter c.saturating_sub-room.result c.in_ok-with_capacity.field-0 c.in_ok-push.ensures.items c.loop.invariant c.in_ok-with_capacity.ensures

pub invariant_of-result : goal.invariant_of-result
invariant_of-result g c =
    AreKept-empty c.loop.counter c.saturating_sub-room.result c.loop.rings.items c.loop.invariant
    (omega (arith, c.saturating_sub-room.ensures, c.loop-test.false, c.loop.auto.counter-end)) (omega (arith, c.loop.auto.counter-end, c.requires))

pub returns : goal.returns
returns g c =
    queues_of-empty c.loop.counter c.saturating_sub-room.result c.loop.rings.items c.loop.invariant
    ∙ ap (λ n. replicate n []) (omega (arith, c.loop-test.false, c.loop.auto.counter-end))
