use Rattle.std.proofs.Common.{[], ap, sym, ◌∙◌, subst}
use Rattle.board_core.specs.Inside.Packing.{machine_in}
use Rattle.board_core.specs.Inside.Stands.{opening_in}
use Rattle.board_core.specs.Opening.{Opening}
use Rattle.board_core.specs.Inside.Stands.{IsKept, StandsFor}
use Rattle.board_machine.proofs.Copies.{alike}
use Rattle.board_core.proofs.opening.Opening.unpack.Goals as goal

pub unpack_into-requires : goal.unpack_into-requires
unpack_into-requires c =
    let mine = opening_in c.self.inside.config c.self.inside.places c.self.inside.machine in
    let yours = opening_in c.args.self.now.config c.args.places (machine_in c.args.packed.now) in
    alike mine yours [] [] c.self.inside.machine (machine_in c.args.packed.now) (ap (λ (o : Opening). o.config) c.self.view_is)
    c.self.invariant.0.good.at_most_128_harts c.self.invariant.1 c.requires.stands

pub invariant_of-self : goal.invariant_of-self
invariant_of-self c =
    let packed = machine_in c.args.packed.now in
    let config = ap (λ (o : Opening). o.config) c.self.view_is in
    let whole = c.unpack_into.ensures.same c.self.inside.config c.args.places ∙ ap (λ k. opening_in k c.args.places packed) config in (
      subst (λ (o : Opening). IsKept o []) (sym whole) c.requires.kept,
      subst (λ (o : Opening). StandsFor o [] c.unpack_into.new.machine) (sym whole)
          (c.unpack_into.ensures.stands (opening_in c.args.self.now.config c.args.places packed) [] c.requires.stands),
    )

pub returns : goal.returns
returns c =
    let packed = machine_in c.args.packed.now in
    c.unpack_into.ensures.same c.self.inside.config c.args.places
    ∙ ap (λ k. opening_in k c.args.places packed) (ap (λ (o : Opening). o.config) c.self.view_is)
