use Rattle.std.proofs.Common.{◌<◌, sym, ap, subst, ◌∙◌}
use Rattle.sv39.specs.declared.cause.Kind.TheVariants.{Fetch}
use Rattle.sv39.specs.Memory.{word_in}
use Rattle.tlb_model.specs.Contents.{hit}
use Rattle.tlb_model.specs.Entries.{matches}
use Rattle.hart_access.specs.Accesses.{place}
use Rattle.hart_access.specs.declared.accesses.Access.TheVariants as accesses
use Rattle.hart_access.specs.Ways.{place_by, way}
use Rattle.board_core.specs.Course.{Course}
use Rattle.board_core.specs.Memory.{memory, satp}
use Rattle.board_laws.specs.Steady.{no_tlb}
use Rattle.access_marks.specs.Inside.Following.{Following}
use Rattle.access_marks.proofs.followed.Followed.fetched.Goals as goal

pub satp_register-register-requires : goal.satp_register-register-requires
satp_register-register-requires c =
    subst (λ (b : Course). c.args.at.hart < b.opening.config.harts) (sym c.view-view.ensures)
    (subst (λ (f : Following). c.args.at.hart < f.course.opening.config.harts) (sym c.self.view_is) c.requires)

pub returns : goal.returns
returns c =
    let va = c.args.at.address in
    let ram = c.ram-ram.ensures ∙ ap (λ (b : Course). memory b.opening b.past) c.view-view.ensures in
    let register = c.satp_register-register.ensures ∙ ap (λ (b : Course). satp b.opening b.past c.args.at.hart) c.view-view.ensures in
    c.place.ensures
    ∙ ap (λ w. place_by (word_in c.ram-ram.result.now) w va Fetch) c.of-way.ensures
    ∙ (λ i. place_by (ram i) (way (ram i) (register i) (λ at. hit matches at (c.new.ensures i)) va Fetch) va Fetch)
    ∙ ap (λ (f : Following). place (memory f.course.opening f.course.past) (satp f.course.opening f.course.past c.args.at.hart) no_tlb va accesses.Fetch) c.self.view_is
