use Rattle.std.proofs.Common.{List, ap, sym, ◌∙◌, arith, reverse, subst}
use Rattle.std.proofs.lemmas.List.{length-reverse}
use Rattle.board_core.specs.Accesses.{used_by_access}
use Rattle.board_terms.specs.declared.op.Actor.TheVariants.{Hart}
use Rattle.board_core.specs.History.{Event, by_hart}
use Rattle.board_core.specs.Course.{Course}
use Rattle.board_core.specs.Room.{IsShort}
use Rattle.board_core.specs.Refusals.{IsAccepted, first_refusal, is_full}
use Rattle.board_core.specs.Replies.{answer, stepped}
use Rattle.board_core.specs.Opening.{place_after}
use Rattle.board_core.specs.Inside.Opened.{opened_by}
use Rattle.board_core.proofs.Room.{replies_are_short}
use Rattle.board_machine.proofs.Situations.{situation-read, sized, standing-at}
use Rattle.board_core.proofs.Steps.{hart_answered, hart_unrefused, kept-more, past-more, room-left, stepped-more}
use Rattle.board_core.proofs.board.Board.other_step.Goals as goal

pub perform-reply-requires-clause-sized : goal.perform-reply-requires-clause-sized
perform-reply-requires-clause-sized c = sized _ _ _ c.self.invariant.0.good.at_most_128_harts c.self.invariant.1

pub perform-reply-requires-clause-standing : goal.perform-reply-requires-clause-standing
perform-reply-requires-clause-standing c =
    let opening = opened_by c.self.inside.config c.self.inside.places c.self.inside.opened in
    let past = reverse c.self.inside.events.items in
    let none = ap (λ (b : Course). first_refusal b.opening b.past (Hart c.args.h) c.args.op) c.self.view_is ∙ c.requires.unrefused in
    let free = hart_unrefused (is_full opening past) opening past c.args.h c.args.op none in
    let at = c.place-place.ensures ∙ sym (ap (λ (b : Course). place_after b.opening b.past) c.self.view_is) in
    standing-at opening past c.self.inside.machine c.place-place.result at c.self.invariant.0 free.room c.self.invariant.1

pub perform-reply-requires-clause-accepted : goal.perform-reply-requires-clause-accepted
perform-reply-requires-clause-accepted c =
    let opening = opened_by c.self.inside.config c.self.inside.places c.self.inside.opened in
    let past = reverse c.self.inside.events.items in
    let none = ap (λ (b : Course). first_refusal b.opening b.past (Hart c.args.h) c.args.op) c.self.view_is ∙ c.requires.unrefused in
    let free = hart_unrefused (is_full opening past) opening past c.args.h c.args.op none in
    subst (IsAccepted c.args.op) (sym (situation-read opening past c.self.inside.machine c.self.invariant.0.good.at_most_128_harts c.self.invariant.1 c.args.h free.inside)) free.accepted

pub record-requires-clause-room : goal.record-requires-clause-room
record-requires-clause-room c =
    let opening = opened_by c.self.inside.config c.self.inside.places c.self.inside.opened in
    let past = reverse c.self.inside.events.items in
    let none = ap (λ (b : Course). first_refusal b.opening b.past (Hart c.args.h) c.args.op) c.self.view_is ∙ c.requires.unrefused in
    let free = hart_unrefused (is_full opening past) opening past c.args.h c.args.op none in
    let room = room-left opening past free.room c.self.invariant.0.within in
    let enough = c.self.invariant.2 in
    omega (arith, length-reverse c.self.inside.events.items)

pub record-requires-clause-short : goal.record-requires-clause-short
record-requires-clause-short c =
    let opening = opened_by c.self.inside.config c.self.inside.places c.self.inside.opened in
    let past = reverse c.self.inside.events.items in
    let h = c.args.h in
    let op = c.args.op in
    let none = ap (λ (b : Course). first_refusal b.opening b.past (Hart h) op) c.self.view_is ∙ c.requires.unrefused in
    let free = hart_unrefused (is_full opening past) opening past h op none in
    subst (IsShort (Hart h) op) (sym (c.perform-reply.ensures.answered opening past c.self.invariant.1))
    (replies_are_short opening past h op (omega (arith, free.inside, c.self.invariant.0.good.at_most_128_harts)))

-- the operation is recorded with its reply
pub invariant_of-self : goal.invariant_of-self
invariant_of-self c =
    let opening = opened_by c.self.inside.config c.self.inside.places c.self.inside.opened in
    let past = reverse c.self.inside.events.items in
    let h = c.args.h in
    let op = c.args.op in
    let none = ap (λ (b : Course). first_refusal b.opening b.past (Hart h) op) c.self.view_is ∙ c.requires.unrefused in
    let free = hart_unrefused (is_full opening past) opening past h op none in
    let r = c.perform-reply.ensures.answered opening past c.self.invariant.1 in
    let u = sym (ap (used_by_access opening past h) c.requires.other) in
    let event = by_hart h op c.perform-reply.result in
    let answered = hart_answered opening past h op c.perform-reply.result none r in
    let here = c.place-place.ensures ∙ sym (ap (λ (b : Course). place_after b.opening b.past) c.self.view_is) in
    rw (past-more c.self.inside.events.items _ event c.record.ensures.items) (
      kept-more opening past event answered u free.room c.self.invariant.0,
      c.perform-reply.ensures.after opening past here c.self.invariant.1,
      let capacity = c.record.ensures.capacity in let enough = c.self.invariant.2 in omega arith,
      c.self.invariant.3,
    )

pub returns-clause-answer : goal.returns-clause-answer
returns-clause-answer c =
    let opening = opened_by c.self.inside.config c.self.inside.places c.self.inside.opened in
    let past = reverse c.self.inside.events.items in
    let h = c.args.h in
    let op = c.args.op in
    let none = ap (λ (b : Course). first_refusal b.opening b.past (Hart h) op) c.self.view_is ∙ c.requires.unrefused in
    sym (hart_answered opening past h op c.perform-reply.result none (c.perform-reply.ensures.answered opening past c.self.invariant.1))
    ∙ ap (λ (b : Course). answer b.opening b.past (Hart h) op) c.self.view_is

pub returns-clause-after : goal.returns-clause-after
returns-clause-after c =
    let opening = opened_by c.self.inside.config c.self.inside.places c.self.inside.opened in
    let past = reverse c.self.inside.events.items in
    let h = c.args.h in
    let op = c.args.op in
    let none = ap (λ (b : Course). first_refusal b.opening b.past (Hart h) op) c.self.view_is ∙ c.requires.unrefused in
    let u = sym (ap (used_by_access opening past h) c.requires.other) in
    let event = by_hart h op c.perform-reply.result in
    let answered = hart_answered opening past h op c.perform-reply.result none (c.perform-reply.ensures.answered opening past c.self.invariant.1) in
    ap (λ (events : List Event). record { opening = opening; past = events })
    (past-more c.self.inside.events.items _ event c.record.ensures.items)
    ∙ stepped-more opening past event answered u
    ∙ ap (λ (b : Course). stepped b (Hart h) op) c.self.view_is
