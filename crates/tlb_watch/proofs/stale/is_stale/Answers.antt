use Rattle.std.proofs.Common.{◌≡◌, ◌↔◌, ap, subst, ◌∙◌}
use Rattle.std.specs.Prelude.{IsTrue}
use Rattle.sv39.specs.declared.cause.Kind.{Kind}
use Rattle.sv39.specs.Maps.{maps}
use Rattle.hart_access.specs.AccessKinds.{kind_of}
use Rattle.hart_access.specs.Ways.{translated}
use Rattle.board_core.specs.Memory.{memory, satp}
use Rattle.any_tlb.specs.Steady.{phys_of}
use Rattle.tlb_watch.proofs.Staling.{stale-by, stale-by-none}
use Rattle.tlb_watch.proofs.stale.is_stale.Goals as goal

pub returns-in-Some : goal.returns-in-Some
returns-in-Some c = λ event uses.
    let b = c.args.board.now in
    let at = c.args.at in
    let entry = c.in-Some.entry in
    let walked = c.walk-walked.result in
    let kind : c.kind-kind.result ≡ kind_of c.args.access = c.kind-kind.ensures in
    stale-by b.opening b.past at.hart at.address c.args.access event entry walked c.agrees.result
    (c.walk-walked.ensures ∙ ap (λ (k : Kind). maps (memory b.opening b.past) (satp b.opening b.past at.hart) at.address k) kind) (uses ∙ c.in-Some.is)
    (subst (λ (k : Kind). IsTrue c.agrees.result ↔ (translated entry.leaf at.address k ≡ phys_of walked at.address)) kind c.agrees.ensures)

pub returns-in-None : goal.returns-in-None
returns-in-None c = λ event uses.
    let b = c.args.board.now in
    stale-by-none b.opening b.past c.args.at.hart c.args.at.address c.args.access event (uses ∙ c.in-None.is)
