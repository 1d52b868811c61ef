use Rattle.std.proofs.Common.{◌≡◌, ◌<◌, true, sym, ap, subst, ◌∙◌}
use Rattle.std.specs.Prelude.{◌↔◌}
use Rattle.board_core.specs.Course.{Course}
use Rattle.board_core.specs.Memory.{memory, satp}
use Rattle.board_core.specs.Opening.{Opening, opening_at}
use Rattle.any_tlb.specs.Firm.{IsLenient}
use Rattle.walk_watch.specs.Logged.{IsLogged, listed}
use Rattle.access_marks.specs.Inside.Following.{Following}
use Rattle.access_marks.proofs.Following.{if-ok}
use Rattle.access_marks.proofs.followed.Followed.is_translated_leniently.Goals as goal

pub satp_register-register-requires : goal.satp_register-register-requires
satp_register-register-requires c =
    subst (λ (b : Course). c.args.at.hart < b.opening.config.harts) (sym c.view-view.ensures)
    (subst (λ (f : Following). c.args.at.hart < f.course.opening.config.harts) (sym c.self.view_is) c.requires.present)

pub returns : goal.returns
returns c = if-ok c.is_lenient.result _ _
    (λ lenient is.
    let b = c.self.inside.board in
    let first : b.opening ≡ opening_at b.opening.config =
    subst (λ (f : Following). f.course.opening ≡ opening_at f.course.opening.config) (sym c.self.view_is) c.requires.first in
    let ram = c.ram.ensures ∙ ap (λ (b : Course). memory b.opening b.past) c.view-view.ensures ∙ ap (λ (o : Opening). memory o b.past) first in
    let register = c.satp_register-register.ensures ∙ ap (λ (b : Course). satp b.opening b.past c.args.at.hart) c.view-view.ensures ∙ ap (λ (o : Opening). satp o b.past c.args.at.hart) first in
    let logged = subst (λ (o : Opening). IsLogged o b.past (listed c.args.log.now)) first
    (subst (λ (f : Following). IsLogged f.course.opening f.course.past (listed c.args.log.now)) (sym c.self.view_is) c.requires.logged) in
    let tells = is b.opening.config b.past logged ram register in
    subst (λ (f : Following). (lenient ≡ true) ↔ IsLenient f.course.opening f.course.past c.args.at.hart c.args.at.address c.args.kind) c.self.view_is
    (subst (λ (o : Opening). (lenient ≡ true) ↔ IsLenient o b.past c.args.at.hart c.args.at.address c.args.kind) (sym first) tells))
    c.is_lenient.ensures
