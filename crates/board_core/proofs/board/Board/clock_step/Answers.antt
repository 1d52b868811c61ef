use Rattle.std.proofs.Common.{◌≡◌, ◌∷◌, None, ap, refl, sym, subst, ◌∙◌, arith, reverse}
use Rattle.std.proofs.lemmas.List.{length-reverse}
use Rattle.board_core.specs.History.{Event, by_clock}
use Rattle.board_terms.specs.declared.op.Actor.TheVariants.{Clock}
use Rattle.board_terms.specs.declared.op.Op.TheVariants.{Tick}
use Rattle.board_terms.specs.declared.reply.Reply.TheVariants.{Done}
use Rattle.board_core.specs.Course.{Course}
use Rattle.board_core.specs.Refusals.{first_refusal}
use Rattle.board_core.specs.Inside.Opened.{opened_by}
use Rattle.board_core.specs.Inside.Stands.{StandsFor}
use Rattle.board_core.proofs.Steps.{clock_answered, kept-more, past-more, room-left, tick_unrefused}
use Rattle.board_core.proofs.board.Board.clock_step.Goals as goal

pub tick_event-event-requires : goal.tick_event-event-requires
tick_event-event-requires c =
    let opening = opened_by c.self.inside.config c.self.inside.places c.self.inside.opened in
    let past = reverse c.self.inside.events.items in
    let n = c.in-Tick.n in
    let none : first_refusal opening past Clock (Tick n) ≡ None =
    ap (first_refusal opening past Clock) (sym c.in-Tick.is) ∙ ap (λ (b : Course). first_refusal b.opening b.past Clock c.args.op) c.self.view_is ∙ c.requires in
    omega (arith, (tick_unrefused opening past n none).1, c.self.invariant.1.interrupts.timers.time)

pub push_reserved-requires : goal.push_reserved-requires
push_reserved-requires c =
    let opening = opened_by c.self.inside.config c.self.inside.places c.self.inside.opened in
    let past = reverse c.self.inside.events.items in
    let n = c.in-Tick.n in
    let none : first_refusal opening past Clock (Tick n) ≡ None =
    ap (first_refusal opening past Clock) (sym c.in-Tick.is) ∙ ap (λ (b : Course). first_refusal b.opening b.past Clock c.args.op) c.self.view_is ∙ c.requires in
    let room = room-left opening past (tick_unrefused opening past n none).0 c.self.invariant.0.within in
    let enough = c.self.invariant.2 in
    omega (arith, length-reverse c.self.inside.events.items)

pub invariant_of-self : goal.invariant_of-self
invariant_of-self c =
    let opening = opened_by c.self.inside.config c.self.inside.places c.self.inside.opened in
    let past = reverse c.self.inside.events.items in
    let n = c.in-Tick.n in
    let tick = by_clock (Tick n) Done in
    let none : first_refusal opening past Clock (Tick n) ≡ None =
    ap (first_refusal opening past Clock) (sym c.in-Tick.is) ∙ ap (λ (b : Course). first_refusal b.opening b.past Clock c.args.op) c.self.view_is ∙ c.requires in
    let stands = subst (λ (event : Event). StandsFor opening (event ∷ past) c.tick_event-event.new.self) c.tick_event-event.ensures.event
    (c.tick_event-event.ensures.after opening past c.self.invariant.1) in
    rw (past-more c.self.inside.events.items _ _ c.push_reserved.ensures.items, c.tick_event-event.ensures.event) (
      kept-more opening past tick (clock_answered opening past (Tick n) none) refl (tick_unrefused opening past n none).0 c.self.invariant.0,
      stands,
      let capacity = c.push_reserved.ensures.capacity in let enough = c.self.invariant.2 in omega arith,
      c.self.invariant.3,
    )
