use Rattle.std.proofs.Common.{◌≡◌, ◌↔◌, ℕ, true, ap, subst, ◌∙◌}
use Rattle.std.specs.Prelude.{IsTrue}
use Rattle.sv39.specs.declared.cause.Kind.{Kind}
use Rattle.tlb_model.specs.Entries.{Entry}
use Rattle.hart_access.specs.AccessKinds.{kind_of}
use Rattle.board_core.specs.Course.{Course}
use Rattle.board_core.specs.History.{Reach}
use Rattle.board_core.specs.Memory.{satp}
use Rattle.any_tlb.specs.Stale.{IsMissed, IsStale}
use Rattle.access_marks.specs.Inside.Following.{Following}
use Rattle.access_marks.specs.Inside.Missing.{HasMissed}
use Rattle.access_marks.proofs.Following.{if-ok}
use Rattle.access_marks.proofs.MissedAccesses.{missed_is, use_of}
use Rattle.access_marks.proofs.followed.Followed.is_missed.Goals as goal

pub returns-then-not-is_stale-clause-missed : goal.returns-then-not-is_stale-clause-missed
returns-then-not-is_stale-clause-missed c = λ event uses.
    let f = c.args.self.now in
    let reach : Reach = record { va = c.args.at.address; access = c.args.access } in
    let tells = subst (λ (f : Following). IsTrue c.is_stale.result ↔ IsStale f.course.opening f.course.past c.args.at.hart event (record { va = c.args.at.address; access = c.args.access })) c.self.view_is
    (c.is_stale.ensures event uses) in (
      λ bad. absurd cc,
      λ missed.
          let yes = tells.1 (c.missed_is_stale.ensures f.course.opening f.course.past c.args.at.hart event reach missed) in
          let no = c.if-not-is_stale.true in
          absurd (cc),
    )

pub invariant_of-self : goal.invariant_of-self
invariant_of-self c = (c.self.invariant.0, c.self.invariant.1, c.has_missed.ensures.kept, c.self.invariant.3)

pub returns-clause-missed : goal.returns-clause-missed
returns-clause-missed c =
    let b = c.self.inside.board in
    let at = c.args.at in
    let entry : Entry = c.in-Some.entry in
    let reach : Reach = record { va = at.address; access = c.args.access } in
    let register : c.satp_register.result ≡ satp b.opening b.past at.hart = c.satp_register.ensures ∙ ap (λ (b : Course). satp b.opening b.past at.hart) c.view.ensures in
    let kind : c.kind.result ≡ kind_of c.args.access = c.kind.ensures in
    if-ok c.has_missed.result _ _
    (λ missed is event uses.
    let decides = missed_is b.opening b.past at.hart event reach entry (uses ∙ c.in-Some.is) in
    let tells : (missed ≡ true) ↔ HasMissed b.opening b.past (use_of b.opening b.past at.hart reach entry) =
    subst (λ (k : Kind). (missed ≡ true) ↔ HasMissed b.opening b.past (record { at = at; kind = k; entry = entry; satp = satp b.opening b.past at.hart })) kind
    (subst (λ (n : ℕ). (missed ≡ true) ↔ HasMissed b.opening b.past (record { at = at; kind = c.kind.result; entry = entry; satp = n })) register is) in
    subst (λ (f : Following). (missed ≡ true) ↔ IsMissed f.course.opening f.course.past at.hart event (record { va = at.address; access = c.args.access })) c.self.view_is
    (λ so. decides.1 (tells.0 so), λ so. tells.1 (decides.0 so)))
    c.has_missed.ensures.missed
