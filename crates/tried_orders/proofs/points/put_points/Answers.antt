use Rattle.std.proofs.Common.{◌∷◌, ◌++◌, ℕ, Bool, List, [], inl, inr, refl, subst, sym, ap, ◌∙◌, arith}
use Rattle.std.specs.Prelude.{slice_get}
use Rattle.std.proofs.lemmas.List.{append-nil, append_assoc, length-append}
use Rattle.conditions.specs.Condition.{Condition}
use Rattle.test_report.specs.declared.verdict.Extent.{Extent}
use Rattle.test_report.specs.declared.verdict.Verdict.{Verdict}
use Rattle.tried_orders.specs.Inside.Judging.{TellsOf}
use Rattle.tried_orders.specs.Verdicts.{IsFoundBy}
use Rattle.tried_orders.proofs.Trying.{each-one-more, none-at, slice_get-either}
use Rattle.tried_orders.proofs.points.put_points.Goals as goal

pub loop-place-init : goal.loop-place-init
loop-place-init g c = (
  refl,
  ([], sym (append-nil _), refl, (λ all records right place verdict at. absurd (none-at place verdict at))),
  ([], sym (append-nil _), (λ all records right. tt)),
)

pub loop-place-preserved : goal.loop-place-preserved
loop-place-preserved g c =
    let before = c.loop-place.invariant in
    let one = c.in_ok-put_found.ensures.found in
    let reach = c.in_ok-put_found.ensures.told in
    let old : List Verdict = before.1.0 in
    let told : List Extent = before.2.0 in
    let harts : ℕ = c.args.trial.now.script.now.config.harts in
    let conditions : List Condition = c.args.trial.now.case.conditions.now in (
      c.put_found.ensures.cut ∙ before.0,
      (
        old ++ one.0 ∷ [],
        one.1 ∙ ap (λ (all : List Verdict). all ++ one.0 ∷ []) before.1.1 ∙ append_assoc _ old (one.0 ∷ []),
        (let long = before.1.2 in let is = length-append old (one.0 ∷ []) in omega arith),
        (λ all records right place verdict at.
            elim (slice_get-either old one.0 place verdict at) [
              | inl earlier ↦ before.1.3 all records right place verdict earlier
              | inr last ↦
                  subst (λ (is_cut : Bool). IsFoundBy harts is_cut (slice_get conditions place) records verdict) before.0
                  (subst (λ (n : ℕ). IsFoundBy harts c.loop-place.file.is_cut (slice_get conditions n) records verdict) (sym (last.0 ∙ before.1.2))
                  (subst (λ (v : Verdict). IsFoundBy harts c.loop-place.file.is_cut (slice_get conditions c.loop-place.place) records v) last.1 (one.2 all records right)))
            ]),
      ),
      (
        told ++ reach.0 ∷ [],
        reach.1 ∙ ap (λ (all : List Extent). all ++ reach.0 ∷ []) before.2.1 ∙ append_assoc _ told (reach.0 ∷ []),
        (λ all records right.
            each-one-more (TellsOf c.args.tried.source c.args.trial.now.options.now.seed records) told reach.0 (before.2.2 all records right)
            (reach.2 all records right)),
      ),
    )
