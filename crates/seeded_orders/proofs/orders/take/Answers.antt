use Rattle.std.proofs.Common.{◌≡◌, List, ◌∷◌, refl, sym, ap, ◌∙◌, subst}
use Rattle.board_terms.specs.declared.op.Actor.{Actor}
use Rattle.board_core.specs.Course.{Course}
use Rattle.board_core.specs.History.{Event}
use Rattle.guest_programs.specs.Places.{AreAt}
use Rattle.seeded_orders.proofs.Taking.{accepted-past, event_of}
use Rattle.seeded_orders.proofs.orders.take.Goals as goal

pub returns-in-Ok-clause-places : goal.returns-in-Ok-clause-places
returns-in-Ok-clause-places g c p theirs at =
    let b : Course = c.args.board.now in
    let by : Actor = c.actor-actor.result in
    let e : Event = event_of b by c.in-Some.op c.in-Ok.reply in
    let past : c.step.new.self.past ≡ e ∷ b.past =
    ap (λ (x : Course). x.past) c.step.ensures.after ∙ accepted-past b by c.in-Some.op c.step.result c.in-Ok.reply c.step.ensures.answer c.in-Ok.is in
    subst (λ (past : List Event). AreAt (g.G.Guests.rest c.args.guests.now) p b.opening.config.harts past c.see.new.self) (sym past)
    (c.see.ensures p b.opening.config.harts b.past e theirs refl refl refl at)
