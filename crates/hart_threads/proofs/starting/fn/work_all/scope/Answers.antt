use Rattle.std.proofs.Common.{◌≡◌, List, [], ◌∷◌, ◌∙◌, sym, ap, map, append-nil, length, refl, arith}
use Rattle.std.specs.Vec.Iter.{into_iter_items}
use Rattle.hart_threads.specs.Inside.Works.{WorkedAt, task}
use Rattle.hart_threads.proofs.Kept.{kept_all, kept_each}
use Rattle.hart_threads.proofs.starting.fn.work_all.scope.Goals as goal

nothing_left : {A : Type 0} (xs : List A) → length xs ≡ 0 → xs ≡ []
nothing_left [] none = refl
nothing_left (x ∷ xs) none = absurd (omega arith)

pub returns-in-Ok-join_promised : goal.returns-in-Ok-join_promised
returns-in-Ok-join_promised g c =
    let at = c.loop-seat in
    let told = c.in-Ok-join_promised.ensures in
    let none = c.in-None.ensures.steps in
    let empty : into_iter_items at.seat-iterator ≡ [] = nothing_left (into_iter_items at.seat-iterator) (sym at.invariant.1 ∙ none.0) in
    let all : at.yielded ≡ c.captures.seats.items = sym (append-nil at.yielded) ∙ rw empty at at.invariant.0 ∙ c.into_iter-seat-iterator.ensures.into_iter_gives.0 in
    record {
      board = λ e. absurd (let t = e in cc);
      seats = kept_all _ (λ worked. worked.seat.actor) (λ p. p.0) (λ p r kept. kept.0) _ at.threads.items c.in-Ok-join_promised.all.items (omega arith) (let long = told.len in omega arith) told.each
          ∙ at.invariant.2 ∙ ap (map (λ seat. seat.actor)) all;
      worked = kept_each _ (λ worked. WorkedAt (task g.K.Plan.lets g.K.Plan.heard g.K.Room.opening g.K.Plan.guests g.K.Plan.ticks) worked.seat worked.met) (λ p r kept. kept.1) _
          at.threads.items c.in-Ok-join_promised.all.items (omega arith) (let long = told.len in omega arith) told.each;
    }
