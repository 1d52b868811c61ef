use Rattle.std.proofs.Common.{◌≡◌, ◌<◌, true, sym, ap, subst, ◌∙◌}
use Rattle.std.specs.Prelude.{◌↔◌}
use Rattle.std.specs.List.{Contains}
use Rattle.board_core.specs.Course.{Course}
use Rattle.board_core.specs.Memory.{memory, satp}
use Rattle.any_tlb.specs.Steady.{IsSteady}
use Rattle.tlb_watch.specs.Tracked.{addresses_of}
use Rattle.access_marks.specs.Inside.Following.{Following}
use Rattle.access_marks.proofs.followed.Followed.is_translated_steadily.Goals as goal

pub satp_register-register-requires : goal.satp_register-register-requires
satp_register-register-requires c =
    subst (λ (b : Course). c.args.at.hart < b.opening.config.harts) (sym c.view-view.ensures)
    (subst (λ (f : Following). c.args.at.hart < f.course.opening.config.harts) (sym c.self.view_is) c.requires.present)

pub returns-in-Some : goal.returns-in-Some
returns-in-Some c =
    let b = c.self.inside.board in
    let ram = c.ram.ensures ∙ ap (λ (b : Course). memory b.opening b.past) c.view-view.ensures in
    let register = c.satp_register-register.ensures ∙ ap (λ (b : Course). satp b.opening b.past c.args.at.hart) c.view-view.ensures in
    let tells = c.is_steady.ensures b.opening b.past (addresses_of c.self.inside.tracker) c.self.invariant.0 ram register in
    subst (λ (f : Following). (c.in-Some.steady ≡ true) ↔ IsSteady f.course.opening f.course.past c.args.at.hart c.args.at.address c.args.kind) c.self.view_is (rw c.in-Some.is at tells)

pub returns-in-None : goal.returns-in-None
returns-in-None c =
    let b = c.self.inside.board in
    let ram = c.ram.ensures ∙ ap (λ (b : Course). memory b.opening b.past) c.view-view.ensures in
    let register = c.satp_register-register.ensures ∙ ap (λ (b : Course). satp b.opening b.past c.args.at.hart) c.view-view.ensures in
    let tells = c.is_steady.ensures b.opening b.past (addresses_of c.self.inside.tracker) c.self.invariant.0 ram register in
    let none = rw c.in-None.is at tells in
    absurd (none (subst (λ (f : Following). Contains f.addresses c.args.at) (sym c.self.view_is) c.requires.watched))
