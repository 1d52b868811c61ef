use Rattle.std.proofs.Common.{◌≡◌, true, subst}
use Rattle.std.specs.Prelude.{◌↔◌}
use Rattle.sv39.specs.declared.cause.Kind.{Kind}
use Rattle.any_tlb.specs.Firm.{IsFirm}
use Rattle.access_marks.proofs.Following.{if-ok}
use Rattle.access_marks.proofs.followed.Followed.is_firm.Goals as goal

pub returns-then-not-is_fetched_steadily : goal.returns-then-not-is_fetched_steadily
returns-then-not-is_fetched_steadily c = (
  (λ bad. absurd (let t = bad in cc)),
  (λ reach.
      let yes = c.is_fetched_steadily.ensures.1 reach.fetch in
      let no = c.if-not-is_fetched_steadily.true in
      absurd (cc)),
)

pub returns : goal.returns
returns c = if-ok c.is_translated_firmly.result _ _
    (λ firm is.
    let f = c.args.self.now in
    let translated = subst (λ (kind : Kind). (firm ≡ true) ↔ IsFirm f.course.opening f.course.past c.args.at.hart c.args.at.address kind) c.kind.ensures is in (
      (λ so. record { translation = translated.0 so; fetch = c.is_fetched_steadily.ensures.0 c.if-not-is_fetched_steadily.false }),
      (λ reach. translated.1 reach.translation),
    ))
    c.is_translated_firmly.ensures
