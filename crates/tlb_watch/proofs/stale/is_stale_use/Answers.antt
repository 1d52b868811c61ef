use Rattle.std.proofs.Common.{◌≡◌, not, sym, subst, ap, ◌∙◌}
use Rattle.std.specs.Prelude.{◌↔◌, IsTrue, Option}
use Rattle.sv39.specs.declared.cause.Kind.{Kind}
use Rattle.sv39.specs.Maps.{maps}
use Rattle.tlb_model.specs.Entries.{Entry}
use Rattle.hart_access.specs.AccessKinds.{kind_of}
use Rattle.hart_access.specs.Ways.{translated}
use Rattle.board_core.specs.Memory.{memory, satp}
use Rattle.any_tlb.specs.Steady.{phys_of}
use Rattle.tlb_watch.specs.Deciding.{gives_the_same, is_stale_use}
use Rattle.tlb_watch.proofs.Deciding.{alike, results-decide}
use Rattle.tlb_watch.proofs.stale.is_stale_use.Goals as goal

pub returns-in-Some : goal.returns-in-Some
returns-in-Some c =
    let b = c.args.view.now in
    let va = c.args.at.address in
    let entry : Entry = c.in-Some.entry in
    let m = memory b.opening b.past in
    let n = satp b.opening b.past c.args.at.hart in
    let kind : c.kind-kind.result ≡ kind_of c.args.access = c.kind-kind.ensures in
    let walked : c.walk-walked.result ≡ maps m n va (kind_of c.args.access) = c.walk-walked.ensures ∙ ap (λ (k : Kind). maps m n va k) kind in
    let says = subst (λ (k : Kind). IsTrue c.agrees.result ↔ (translated entry.leaf va k ≡ phys_of c.walk-walked.result va)) kind c.agrees.ensures in
    let told = subst (λ r. IsTrue c.agrees.result ↔ (translated entry.leaf va (kind_of c.args.access) ≡ phys_of r va)) walked says in
    let same : c.agrees.result ≡ gives_the_same m n va (kind_of c.args.access) entry =
    alike c.agrees.result (gives_the_same m n va (kind_of c.args.access) entry) _ told (results-decide _ _) in
    ap not same ∙ sym (ap (λ (used : Option Entry). is_stale_use used m n va (kind_of c.args.access)) c.in-Some.is)
