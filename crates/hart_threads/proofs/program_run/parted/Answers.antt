use Rattle.std.proofs.Common.{◌≡◌, ◌∙◌, ◌++◌, ◌∷◌, [], List, ap, sym, append_assoc, length, map, arith}
use Rattle.std.specs.Vec.Iter.{into_iter_items}
use Rattle.std.proofs.lemmas.List.{map-append}
use Rattle.board_terms.specs.declared.op.Actor.{Actor}
use Rattle.board_lock.specs.Seats.{Sitting}
use Rattle.guest_programs.specs.declared.met.Met.{Met}
use Rattle.guest_programs.specs.Met.{met_by_both}
use Rattle.hart_threads.specs.Inside.Works.{met_by_all}
use Rattle.hart_threads.proofs.MetTogether.{met_by_one_more}
use Rattle.hart_threads.proofs.Ticked.{ticked-more}
use Rattle.hart_threads.proofs.program_run.parted.Goals as goal

pub loop-worked-preserved : goal.loop-worked-preserved
loop-worked-preserved g c =
    let at = c.loop-worked in
    let worked = c.in-Some.worked in
    let steps : into_iter_items at.worked-iterator ≡ worked ∷ into_iter_items c.next.new.self = c.in-Some.ensures.steps.0 in
    let pushed : c.push.new.self.items ≡ at.seats.items ++ worked.seat ∷ [] = c.in_ok-push.ensures.items in
    let more = ticked-more g.K.Plan.ticks at.seats.items worked.seat at.invariant.3 worked.ticked in (
      append_assoc at.yielded (worked ∷ []) _ ∙ rw (← steps) at.invariant.0,
      (let was = at.invariant.1 in let gone = c.in-Some.ensures.steps.1 in let short = ap length steps in omega arith),
      ap (map (λ (seat : Sitting). seat.actor)) pushed ∙ map-append (λ (seat : Sitting). seat.actor) at.seats.items (worked.seat ∷ [])
          ∙ ap (λ (actors : List Actor). actors ++ worked.seat.actor ∷ []) at.invariant.2 ∙ sym (map-append (λ it. it.seat.actor) at.yielded (worked ∷ [])),
      rw pushed more,
      c.and-met.ensures ∙ ap (λ (m : Met). met_by_both m worked.met) at.invariant.4 ∙ sym (met_by_one_more (map (λ it. it.met) at.yielded) worked.met)
          ∙ ap met_by_all (sym (map-append (λ it. it.met) at.yielded (worked ∷ []))),
      pushed ∙ ap (λ (seats : List Sitting). seats ++ worked.seat ∷ []) at.invariant.5 ∙ sym (map-append (λ it. it.seat) at.yielded (worked ∷ [])),
    )
