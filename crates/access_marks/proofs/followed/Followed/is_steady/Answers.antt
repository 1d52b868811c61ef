use Rattle.std.proofs.Common.{◌≡◌, true, sym, subst, ◌∙◌}
use Rattle.std.specs.Prelude.{◌↔◌}
use Rattle.sv39.specs.declared.cause.Kind.{Kind}
use Rattle.any_tlb.specs.Steady.{IsSteady}
use Rattle.access_marks.proofs.followed.Followed.is_steady.Goals as goal

pub returns-then-is_translated_steadily : goal.returns-then-is_translated_steadily
returns-then-is_translated_steadily c =
    let f = c.args.self.now in
    let translated = subst (λ (kind : Kind). (c.is_translated_steadily.result ≡ true) ↔ IsSteady f.course.opening f.course.past c.args.at.hart c.args.at.address kind) c.kind.ensures c.is_translated_steadily.ensures in (
      (λ good. record { translation = translated.0 c.if-is_translated_steadily.true; fetch = c.is_fetched_steadily.ensures.0 good }),
      (λ steady. c.is_fetched_steadily.ensures.1 steady.fetch),
    )

pub returns-else-is_translated_steadily : goal.returns-else-is_translated_steadily
returns-else-is_translated_steadily c =
    let f = c.args.self.now in
    let translated = subst (λ (kind : Kind). (c.is_translated_steadily.result ≡ true) ↔ IsSteady f.course.opening f.course.past c.args.at.hart c.args.at.address kind) c.kind.ensures c.is_translated_steadily.ensures in (
      (λ bad. absurd (let t = bad in cc)),
      (λ steady. absurd (let e = sym (translated.1 steady.translation) ∙ c.if-is_translated_steadily.false in cc)),
    )
