use Rattle.std.proofs.Common.{◌≡◌, [], refl, ap, sym, ◌∙◌, arith, reverse, subst}
use Rattle.board_core.specs.Course.{Course}
use Rattle.board_core.specs.Cuts.{IsUnseen, opening_of}
use Rattle.board_core.specs.Inside.Opened.{opened_by}
use Rattle.board_core.specs.Opening.{Opening, place_after}
use Rattle.board_core.specs.Inside.Stands.{IsKept, StandsFor}
use Rattle.board_core.proofs.Cutting.{kept-cut}
use Rattle.board_machine.proofs.CutStanding.{copy-cut, held-by, stands-cut}
use Rattle.board_core.proofs.Unseen.{unseen}
use Rattle.board_core.proofs.board.Board.cut.Goals as goal

-- the copy is what the history leaves, and stands for it
pub of-left-requires-clause-kept : goal.of-left-requires-clause-kept
of-left-requires-clause-kept c =
    let o = opened_by c.self.inside.config c.self.inside.places c.self.inside.opened in
    let past = reverse c.self.inside.events.items in
    let m = c.self.inside.machine in
    let place = c.place-place.result in
    let here : place ≡ place_after o past = c.place-place.ensures ∙ sym (ap (λ (b : Course). place_after b.opening b.past) c.self.view_is) in
    let left = copy-cut o past m c.in-Ok-try_copy.machine place c.self.invariant.0 c.try_copy.ensures.pages c.self.invariant.1 here (c.in-Ok-try_copy.ensures.same c.self.inside.config place) in
    subst (λ (opening : Opening). IsKept opening []) (sym left)
    (kept-cut o past (held-by o past m c.self.invariant.0 c.try_copy.ensures.pages c.self.invariant.1) c.self.invariant.0 (omega (arith, here, c.if-place-gt-LAST_CUT.false)))

pub of-left-requires-clause-stands : goal.of-left-requires-clause-stands
of-left-requires-clause-stands c =
    let o = opened_by c.self.inside.config c.self.inside.places c.self.inside.opened in
    let past = reverse c.self.inside.events.items in
    let m = c.self.inside.machine in
    let place = c.place-place.result in
    let here : place ≡ place_after o past = c.place-place.ensures ∙ sym (ap (λ (b : Course). place_after b.opening b.past) c.self.view_is) in
    let left = copy-cut o past m c.in-Ok-try_copy.machine place c.self.invariant.0 c.try_copy.ensures.pages c.self.invariant.1 here (c.in-Ok-try_copy.ensures.same c.self.inside.config place) in
    subst (λ (opening : Opening). StandsFor opening [] c.in-Ok-try_copy.machine) (sym left)
    (c.in-Ok-try_copy.ensures.stands (opening_of o past) [] (stands-cut o past (held-by o past m c.self.invariant.0 c.try_copy.ensures.pages c.self.invariant.1) m c.self.invariant.1))

pub invariant_of-self : goal.invariant_of-self
invariant_of-self c =
    let o = opened_by c.self.inside.config c.self.inside.places c.self.inside.opened in
    let past = reverse c.self.inside.events.items in
    let m = c.self.inside.machine in
    let place = c.place-place.result in
    let here : place ≡ place_after o past = c.place-place.ensures ∙ sym (ap (λ (b : Course). place_after b.opening b.past) c.self.view_is) in
    let held = held-by o past m c.self.invariant.0 c.try_copy.ensures.pages c.self.invariant.1 in
    let left = copy-cut o past m c.in-Ok-try_copy.machine place c.self.invariant.0 c.try_copy.ensures.pages c.self.invariant.1 here (c.in-Ok-try_copy.ensures.same c.self.inside.config place) in
    rw (c.replace-opened.ensures.after, c.of-left.ensures, c.replace-events.ensures.after, c.in-Ok.ensures.items) (
      subst (λ (opening : Opening). IsKept opening []) (sym left) (kept-cut o past held c.self.invariant.0 (omega (arith, here, c.if-place-gt-LAST_CUT.false))),
      subst (λ (opening : Opening). StandsFor opening [] m) (sym left) (stands-cut o past held m c.self.invariant.1),
      c.in-Ok.ensures.exact,
      (refl, refl),
    )

pub returns-clause-after : goal.returns-clause-after
returns-clause-after c =
    let o = opened_by c.self.inside.config c.self.inside.places c.self.inside.opened in
    let here = c.place-place.ensures ∙ sym (ap (λ (b : Course). place_after b.opening b.past) c.self.view_is) in
    let left = copy-cut o (reverse c.self.inside.events.items) c.self.inside.machine c.in-Ok-try_copy.machine c.place-place.result c.self.invariant.0 c.try_copy.ensures.pages c.self.invariant.1
    here (c.in-Ok-try_copy.ensures.same c.self.inside.config c.place-place.result) in
    rw (c.replace-opened.ensures.after, c.of-left.ensures, c.replace-events.ensures.after, c.in-Ok.ensures.items)
    (ap (λ (opening : Opening). (let b : Course = record { opening = opening; past = [] } in b)) left
    ∙ ap (λ (b : Course). (let cut : Course = record { opening = opening_of b.opening b.past; past = [] } in cut)) c.self.view_is)

pub returns-clause-unseen : goal.returns-clause-unseen
returns-clause-unseen c =
    let o = opened_by c.self.inside.config c.self.inside.places c.self.inside.opened in
    let past = reverse c.self.inside.events.items in
    let held = held-by o past c.self.inside.machine c.self.invariant.0 c.try_copy.ensures.pages c.self.invariant.1 in
    subst (λ (b : Course). IsUnseen b.opening b.past) c.self.view_is (unseen o past held)
