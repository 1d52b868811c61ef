use Rattle.std.proofs.Common.{◌≡◌, length, subst, sym, ap, ◌∙◌, arith}
use Rattle.std.proofs.lemmas.List.{length-map}
use Rattle.fence_queue.specs.Inside.Rings.{AreKept, queue_in, queues_of}
use Rattle.fence_queue.proofs.Copies.{all-copied}
use Rattle.fence_queue.proofs.queues.Queues.copy_from.Goals as goal

pub invariant_of-self : goal.invariant_of-self
invariant_of-self g c =
    let mine = c.self.inside.rings in
    let yours = c.from.inside.rings.items in
    let long : length mine.items ≡ length yours =
    sym (length-map mine.items queue_in) ∙ ap length c.self.view_is ∙ c.requires ∙ sym (ap length c.from.view_is) ∙ length-map yours queue_in in
    let all = all-copied c.loop-t.self-inside.rings.items yours c.loop-t.t c.loop-t.invariant.long (omega (arith, c.loop-t-test.false, c.len-t-end.ensures, long, mine.ok.0)) c.loop-t.invariant.copied in
    subst (λ rings. AreKept rings c.from.inside.total) (sym all) c.from.invariant

pub returns : goal.returns
returns g c =
    let mine = c.self.inside.rings in
    let yours = c.from.inside.rings.items in
    let long : length mine.items ≡ length yours =
    sym (length-map mine.items queue_in) ∙ ap length c.self.view_is ∙ c.requires ∙ sym (ap length c.from.view_is) ∙ length-map yours queue_in in
    let all = all-copied c.loop-t.self-inside.rings.items yours c.loop-t.t c.loop-t.invariant.long (omega (arith, c.loop-t-test.false, c.len-t-end.ensures, long, mine.ok.0)) c.loop-t.invariant.copied in
    ap queues_of all ∙ c.from.view_is
