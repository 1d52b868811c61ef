use Rattle.std.proofs.Common.{[], ◌∷◌, subst, ap, sym, ◌∙◌}
use Rattle.board_core.specs.Cuts.{opening_of}
use Rattle.board_core.specs.Inside.Stands.{opening_in}
use Rattle.board_core.specs.Opening.{Opening}
use Rattle.board_core.specs.Inside.Stands.{IsKept, StandsFor}
use Rattle.board_core.proofs.Leaving.{left-by, stepped-to}
use Rattle.board_core.proofs.opening.Opening.taken.Goals as goal

pub of-opening-requires-clause-kept : goal.of-opening-requires-clause-kept
of-opening-requires-clause-kept c =
    let o = opening_in c.self.inside.config c.self.inside.places c.self.inside.machine in
    let left = left-by o c.args.self.now c.self.view_is c.args.actor c.args.op c.event-event.result c.args.machine c.event-event.new.machine c.self.invariant.0
    c.requires.ram c.requires.stands c.requires.early c.requires.unrefused c.event-event.ensures.event c.event-event.ensures.stands in
    subst (λ (o : Opening). IsKept o []) (sym left.same) left.kept

pub of-opening-requires-clause-stands : goal.of-opening-requires-clause-stands
of-opening-requires-clause-stands c =
    let o = opening_in c.self.inside.config c.self.inside.places c.self.inside.machine in
    let left = left-by o c.args.self.now c.self.view_is c.args.actor c.args.op c.event-event.result c.args.machine c.event-event.new.machine c.self.invariant.0
    c.requires.ram c.requires.stands c.requires.early c.requires.unrefused c.event-event.ensures.event c.event-event.ensures.stands in
    subst (λ (o : Opening). StandsFor o [] c.event-event.new.machine) (sym left.same) left.stands

pub returns : goal.returns
returns c =
    let o = opening_in c.self.inside.config c.self.inside.places c.self.inside.machine in
    let left = left-by o c.args.self.now c.self.view_is c.args.actor c.args.op c.event-event.result c.args.machine c.event-event.new.machine c.self.invariant.0
    c.requires.ram c.requires.stands c.requires.early c.requires.unrefused c.event-event.ensures.event c.event-event.ensures.stands in
    stepped-to c.args.self.now c.args.actor c.args.op c.event-event.result c.of-opening.result c.requires.unrefused c.event-event.ensures.event
    (c.of-opening.ensures ∙ left.same ∙ ap (λ (o : Opening). opening_of o (c.event-event.result ∷ [])) c.self.view_is)
