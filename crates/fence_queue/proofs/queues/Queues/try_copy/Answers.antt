use Rattle.std.proofs.Common.{◌≡◌, ◌<◌, ◌++◌, ◌∷◌, [], add-one, length, map, take, get_or, ap, sym, ◌∙◌, arith}
use Rattle.std.proofs.Math.Seq.{take-suc}
use Rattle.std.proofs.lemmas.List.{take_all}
use Rattle.fence_queue.specs.Inside.Rings.{queue_in}
use Rattle.fence_queue.proofs.queues.Queues.try_copy.Goals as goal

pub loop-t-init : goal.loop-t-init
loop-t-init g c = c.in_ok-rings.ensures.items

pub loop-t-preserved : goal.loop-t-preserved
loop-t-preserved g c =
    let items = c.self.inside.rings.items in
    let t = c.loop-t.t in
    let ring = c.index.result.now in
    let below : t < length items = omega (arith, c.loop-t-test.true, c.len-t-end.ensures) in
    let here : ring ≡ get_or items t ring = c.index.ensures in
    c.in_ok-push.ensures.items
    ∙ ap (λ copy. c.loop-t.rings.items ++ copy ∷ []) (c.in_ok-copy_of.ensures ∙ here)
    ∙ ap (λ before. before ++ get_or items t ring ∷ []) c.loop-t.invariant
    ∙ sym (take-suc items t ring below)
    ∙ ap (λ n. take n items) (sym (add-one t))

pub invariant_of-result : goal.invariant_of-result
invariant_of-result g c =
    let all = c.loop-t.invariant ∙ take_all c.loop-t.t c.self.inside.rings.items (omega (arith, c.loop-t-test.false, c.len-t-end.ensures)) in
    rw all c.self.invariant

pub returns : goal.returns
returns g c =
    let all = c.loop-t.invariant ∙ take_all c.loop-t.t c.self.inside.rings.items (omega (arith, c.loop-t-test.false, c.len-t-end.ensures)) in
    ap (map queue_in) all ∙ c.self.view_is
