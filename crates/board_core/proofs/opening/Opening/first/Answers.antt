use Rattle.std.proofs.Common.{[], subst, sym}
use Rattle.board_core.specs.Opening.{Opening}
use Rattle.board_core.specs.Inside.Stands.{IsKept, StandsFor}
use Rattle.board_core.proofs.Firsts.{first-in, first-kept}
use Rattle.board_core.proofs.opening.Opening.first.Goals as goal

pub invariant_of-result : goal.invariant_of-result
invariant_of-result c =
    let config = c.args.config.now in
    let made = c.in_ok-machine.ensures in
    let is = first-in config c.requires c.in_ok-machine.machine made.ram made.stands in (
      subst (λ (o : Opening). IsKept o []) (sym is) (first-kept config c.requires),
      subst (λ (o : Opening). StandsFor o [] c.in_ok-machine.machine) (sym is) made.stands,
    )

pub returns : goal.returns
returns c =
    let made = c.in_ok-machine.ensures in
    first-in c.args.config.now c.requires c.in_ok-machine.machine made.ram made.stands
