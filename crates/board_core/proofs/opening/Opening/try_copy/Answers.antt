use Rattle.std.proofs.Common.{[], sym, ◌∙◌, subst}
use Rattle.board_core.specs.Inside.Stands.{opening_in}
use Rattle.board_core.specs.Opening.{Opening}
use Rattle.board_core.specs.Inside.Stands.{IsKept, StandsFor}
use Rattle.board_core.proofs.opening.Opening.try_copy.Goals as goal

pub invariant_of-result : goal.invariant_of-result
invariant_of-result c =
    let same = c.in_ok-machine.ensures.same c.self.inside.config c.self.inside.places in (
      subst (λ (o : Opening). IsKept o []) (sym same) c.self.invariant.0,
      subst (λ (o : Opening). StandsFor o [] c.in_ok-machine.machine) (sym same)
          (c.in_ok-machine.ensures.stands (opening_in c.self.inside.config c.self.inside.places c.self.inside.machine) [] c.self.invariant.1),
    )

pub returns : goal.returns
returns c = c.in_ok-machine.ensures.same c.self.inside.config c.self.inside.places ∙ c.self.view_is
