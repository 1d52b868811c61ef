use Rattle.std.proofs.Common.{[], ap, sym, ◌∙◌, subst}
use Rattle.board_terms.specs.declared.config.Config.{Config}
use Rattle.board_core.specs.Inside.Stands.{opening_in}
use Rattle.board_core.specs.Opening.{Opening}
use Rattle.board_core.specs.Inside.Stands.{IsKept, StandsFor}
use Rattle.board_machine.proofs.Copies.{alike}
use Rattle.board_core.proofs.opening.Opening.copy_from.Goals as goal

pub copy_from-requires : goal.copy_from-requires
copy_from-requires c =
    let mine = opening_in c.self.inside.config c.self.inside.places c.self.inside.machine in
    let yours = opening_in c.from.inside.config c.from.inside.places c.from.inside.machine in
    let config = ap (λ (o : Opening). o.config) c.self.view_is ∙ c.requires ∙ sym (ap (λ (o : Opening). o.config) c.from.view_is) in
    alike mine yours [] [] c.self.inside.machine c.from.inside.machine config c.self.invariant.0.good.at_most_128_harts c.self.invariant.1 c.from.invariant.1

pub invariant_of-self : goal.invariant_of-self
invariant_of-self c =
    let machine = c.copy_from.new.self in
    let config = ap (λ (o : Opening). o.config) c.self.view_is ∙ c.requires ∙ sym (ap (λ (o : Opening). o.config) c.from.view_is) in
    let whole = c.copy_from.ensures.same c.self.inside.config c.from.inside.places
    ∙ ap (λ (k : Config). opening_in k c.from.inside.places c.from.inside.machine) config in (
      subst (λ (o : Opening). IsKept o []) (sym whole) c.from.invariant.0,
      subst (λ (o : Opening). StandsFor o [] machine) (sym whole)
          (c.copy_from.ensures.stands (opening_in c.from.inside.config c.from.inside.places c.from.inside.machine) [] c.from.invariant.1),
    )

pub returns : goal.returns
returns c =
    let config = ap (λ (o : Opening). o.config) c.self.view_is ∙ c.requires ∙ sym (ap (λ (o : Opening). o.config) c.from.view_is) in
    c.copy_from.ensures.same c.self.inside.config c.from.inside.places
    ∙ ap (λ (k : Config). opening_in k c.from.inside.places c.from.inside.machine) config
    ∙ c.from.view_is
