use Rattle.std.proofs.Common.{◌-◌, [], length, replicate, refl, sym, ap, ◌∙◌}
use Rattle.std.proofs.lemmas.List.{length-map}
use Rattle.fence_queue.specs.Inside.Rings.{queue_in}
use Rattle.fence_queue.proofs.Kept.{AreKept-empty, emptied-all, emptied-more, queues_of-empty}
use Rattle.fence_queue.proofs.queues.Queues.clear.Goals as goal

pub loop-ring-preserved : goal.loop-ring-preserved
loop-ring-preserved g c =
    emptied-more c.deref_mut-ring-items.result.now c.loop-ring.ring-items c.loop-ring.ring-index c.ring-item.result c.clear.new.self
    (rw c.deref_mut-ring-items.ensures.value c.self.invariant.room) c.loop-ring-test.true c.loop-ring.invariant c.clear.ensures

pub invariant_of-self : goal.invariant_of-self
invariant_of-self g c =
    let rings = c.self.inside.rings.items in
    let all = emptied-all rings _ c.loop-ring.ring-items c.loop-ring.ring-index _ c.deref_mut-ring-items.ensures.value c.loop-ring.invariant c.loop-ring-test.false c.loop-ring.auto.ring-index-end
    c.self.inside.rings.ok.0 in
    AreKept-empty (length rings) (length rings - 1) _ all refl c.self.invariant.limit

pub returns : goal.returns
returns g c =
    let rings = c.self.inside.rings.items in
    let all = emptied-all rings _ c.loop-ring.ring-items c.loop-ring.ring-index _ c.deref_mut-ring-items.ensures.value c.loop-ring.invariant c.loop-ring-test.false c.loop-ring.auto.ring-index-end
    c.self.inside.rings.ok.0 in
    queues_of-empty (length rings) (length rings - 1) _ all ∙ ap (λ n. replicate n []) (sym (length-map rings queue_in) ∙ ap length c.self.view_is)
