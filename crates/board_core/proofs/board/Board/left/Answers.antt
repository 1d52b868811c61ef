use Rattle.std.proofs.Common.{◌≡◌, [], ap, sym, ◌∙◌, arith, reverse, subst}
use Rattle.board_core.specs.Course.{Course}
use Rattle.board_core.specs.Cuts.{opening_of}
use Rattle.board_core.specs.Inside.Opened.{opened_by}
use Rattle.board_core.specs.Opening.{Opening, place_after}
use Rattle.board_core.specs.Inside.Stands.{IsKept, StandsFor}
use Rattle.board_core.proofs.Cutting.{kept-cut}
use Rattle.board_machine.proofs.CutStanding.{copy-cut, held-by, stands-cut}
use Rattle.board_core.proofs.board.Board.left.Goals as goal

-- the copy is what the history leaves, and stands for it
pub of-requires-clause-kept : goal.of-requires-clause-kept
of-requires-clause-kept c =
    let o = opened_by c.self.inside.config c.self.inside.places c.self.inside.opened in
    let past = reverse c.self.inside.events.items in
    let m = c.self.inside.machine in
    let place = c.place-here.result in
    let here : place ≡ place_after o past = c.place-here.ensures ∙ sym (ap (λ (b : Course). place_after b.opening b.past) c.self.view_is) in
    let left = copy-cut o past m c.in-Ok.machine place c.self.invariant.0 c.try_copy.ensures.pages c.self.invariant.1 here (c.in-Ok.ensures.same c.self.inside.config place) in
    subst (λ (opening : Opening). IsKept opening []) (sym left)
    (kept-cut o past (held-by o past m c.self.invariant.0 c.try_copy.ensures.pages c.self.invariant.1) c.self.invariant.0 (omega (arith, here, c.if-here-gt-LAST_CUT.false)))

pub of-requires-clause-stands : goal.of-requires-clause-stands
of-requires-clause-stands c =
    let o = opened_by c.self.inside.config c.self.inside.places c.self.inside.opened in
    let past = reverse c.self.inside.events.items in
    let m = c.self.inside.machine in
    let place = c.place-here.result in
    let here : place ≡ place_after o past = c.place-here.ensures ∙ sym (ap (λ (b : Course). place_after b.opening b.past) c.self.view_is) in
    let left = copy-cut o past m c.in-Ok.machine place c.self.invariant.0 c.try_copy.ensures.pages c.self.invariant.1 here (c.in-Ok.ensures.same c.self.inside.config place) in
    subst (λ (opening : Opening). StandsFor opening [] c.in-Ok.machine) (sym left)
    (c.in-Ok.ensures.stands (opening_of o past) [] (stands-cut o past (held-by o past m c.self.invariant.0 c.try_copy.ensures.pages c.self.invariant.1) m c.self.invariant.1))

pub returns-clause-left : goal.returns-clause-left
returns-clause-left c =
    let o = opened_by c.self.inside.config c.self.inside.places c.self.inside.opened in
    let here = c.place-here.ensures ∙ sym (ap (λ (b : Course). place_after b.opening b.past) c.self.view_is) in
    let left = copy-cut o (reverse c.self.inside.events.items) c.self.inside.machine c.in-Ok.machine c.place-here.result c.self.invariant.0 c.try_copy.ensures.pages c.self.invariant.1
    here (c.in-Ok.ensures.same c.self.inside.config c.place-here.result) in
    rw c.of.ensures (left ∙ ap (λ (b : Course). opening_of b.opening b.past) c.self.view_is)
