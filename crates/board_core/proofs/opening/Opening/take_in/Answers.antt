use Rattle.std.proofs.Common.{◌+◌, [], ◌∷◌, subst, ap, sym, ◌∙◌}
use Rattle.sv39.specs.Memory.{IsRam}
use Rattle.board_terms.specs.declared.config.Config.{Config}
use Rattle.board_core.specs.Cuts.{opening_of}
use Rattle.board_core.specs.Inside.Stands.{opening_in}
use Rattle.board_core.specs.Opening.{Opening}
use Rattle.board_core.specs.Inside.Stands.{IsKept, StandsFor}
use Rattle.board_machine.proofs.Copies.{alike}
use Rattle.board_core.proofs.Leaving.{left-by, stepped-to}
use Rattle.board_core.proofs.opening.Opening.take_in.Goals as goal

pub copy_from-requires : goal.copy_from-requires
copy_from-requires c =
    let mine = opening_in c.self.inside.config c.self.inside.places c.self.inside.machine in
    let old = opening_in c.left.inside.config c.left.inside.places c.left.inside.machine in
    let config = ap (λ (o : Opening). o.config) c.left.view_is ∙ c.requires.config ∙ sym (ap (λ (o : Opening). o.config) c.self.view_is) in
    alike old mine [] [] c.left.inside.machine c.self.inside.machine config c.left.invariant.0.good.at_most_128_harts c.left.invariant.1 c.self.invariant.1

pub event-event-requires-clause-stands : goal.event-event-requires-clause-stands
event-event-requires-clause-stands c =
    c.copy_from.ensures.stands c.args.self.now [] (subst (λ (o : Opening). StandsFor o [] c.self.inside.machine) c.self.view_is c.self.invariant.1)

pub invariant_of-left : goal.invariant_of-left
invariant_of-left c =
    let o = opening_in c.self.inside.config c.self.inside.places c.self.inside.machine in
    let copy = c.copy_from.new.self in
    let stands = c.copy_from.ensures.stands c.args.self.now [] (subst (λ (o : Opening). StandsFor o [] c.self.inside.machine) c.self.view_is c.self.invariant.1) in
    let ram = subst IsRam (sym (ap (λ (o : Opening). o.ram) (c.copy_from.ensures.same c.self.inside.config c.self.inside.places))) c.copy_from.ensures.pages in
    let goes = left-by o c.args.self.now c.self.view_is c.args.actor c.args.op c.event-event.result copy c.event-event.new.machine c.self.invariant.0
    ram stands c.requires.early c.requires.unrefused c.event-event.ensures.event c.event-event.ensures.stands in
    let config = ap (λ (o : Opening). o.config) c.left.view_is ∙ c.requires.config ∙ sym (ap (λ (o : Opening). o.config) c.self.view_is) in
    let whole = ap (λ (k : Config). opening_in k (c.self.inside.places + 1) c.event-event.new.machine) config ∙ goes.same in (
      subst (λ (o : Opening). IsKept o []) (sym whole) goes.kept,
      subst (λ (o : Opening). StandsFor o [] c.event-event.new.machine) (sym whole) goes.stands,
    )

pub returns-clause-step : goal.returns-clause-step
returns-clause-step c =
    let o = opening_in c.self.inside.config c.self.inside.places c.self.inside.machine in
    let copy = c.copy_from.new.self in
    let stands = c.copy_from.ensures.stands c.args.self.now [] (subst (λ (o : Opening). StandsFor o [] c.self.inside.machine) c.self.view_is c.self.invariant.1) in
    let ram = subst IsRam (sym (ap (λ (o : Opening). o.ram) (c.copy_from.ensures.same c.self.inside.config c.self.inside.places))) c.copy_from.ensures.pages in
    let goes = left-by o c.args.self.now c.self.view_is c.args.actor c.args.op c.event-event.result copy c.event-event.new.machine c.self.invariant.0
    ram stands c.requires.early c.requires.unrefused c.event-event.ensures.event c.event-event.ensures.stands in
    let config = ap (λ (o : Opening). o.config) c.left.view_is ∙ c.requires.config ∙ sym (ap (λ (o : Opening). o.config) c.self.view_is) in
    let whole = ap (λ (k : Config). opening_in k (c.self.inside.places + 1) c.event-event.new.machine) config ∙ goes.same in
    stepped-to c.args.self.now c.args.actor c.args.op c.event-event.result _ c.requires.unrefused c.event-event.ensures.event
    (whole ∙ ap (λ (o : Opening). opening_of o (c.event-event.result ∷ [])) c.self.view_is)
