use Rattle.std.proofs.Common.{◌≡◌, [], refl, ap, sym, ◌∙◌, subst}
use Rattle.std.specs.Prelude.{Some}
use Rattle.board_core.specs.Inside.Opened.{opened_by}
use Rattle.board_core.specs.Opening.{Opening}
use Rattle.board_core.specs.Inside.Stands.{IsKept, StandsFor}
use Rattle.board_core.proofs.board.Board.at.Goals as goal

pub invariant_of-result : goal.invariant_of-result
invariant_of-result c =
    let o = c.args.opening.now in
    let same : opened_by c.config-config.result.now c.places.result (Some c.in_ok-left.left) ≡ o = rw (c.in_ok-left.ensures, c.config-config.ensures.config, c.places.ensures) refl in
    rw c.in_ok-events.ensures.items (
      subst (λ (opening : Opening). IsKept opening []) (c.in_ok-copy.ensures ∙ sym same) c.into_machine-machine.ensures.kept,
      subst (λ (opening : Opening). StandsFor opening [] c.into_machine-machine.result) (c.in_ok-copy.ensures ∙ sym same) c.into_machine-machine.ensures.stands,
      c.in_ok-events.ensures.exact,
      (
        ap (λ (opening : Opening). opening.config) c.in_ok-left.ensures ∙ sym c.config-config.ensures.config,
        ap (λ (opening : Opening). opening.places) c.in_ok-left.ensures ∙ sym c.places.ensures,
      ),
    )
