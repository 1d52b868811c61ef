use Rattle.std.proofs.Common.{◌≡◌, ◌∷◌, ◌++◌, List, [], length, inl, inr, subst, sym, ap, ◌∙◌, arith}
use Rattle.std.specs.Prelude.{Some, slice_get}
use Rattle.std.proofs.lemmas.List.{length-append}
use Rattle.std.proofs.lemmas.Option.{slice_get-get_or}
use Rattle.conditions.specs.Condition.{Condition}
use Rattle.test_report.specs.declared.verdict.Verdict.{Verdict}
use Rattle.test_report.specs.Statuses.{verdicts}
use Rattle.all_orders.specs.declared.asking.Told.{Told}
use Rattle.all_orders.specs.Verdicts.{IsFound}
use Rattle.all_orders.proofs.Verdicts.{slice_get-either}
use Rattle.all_orders.proofs.points.put_points.Goals as goal

pub loop-place-preserved : goal.loop-place-preserved
loop-place-preserved g c =
    let found = c.in_ok-put_point.ensures.found in
    let before = c.loop-place.invariant in
    let old : List Verdict = verdicts c.loop-place.file in
    let new : List Verdict = verdicts c.put_point.new.file in
    let numbers = c.args.search.now.scope.now.widest in
    let conditions : List Condition = c.args.search.now.trial.now.case.conditions.now in
    let grown : new ≡ old ++ found.0 ∷ [] = found.1 in
    let many = ap (λ (vs : List Verdict). length vs) grown ∙ length-append old (found.0 ∷ []) in
    let told-at : slice_get c.args.answers.now c.loop-place.place ≡ Some c.index-answers-place.result =
    slice_get-get_or c.args.answers.now c.loop-place.place c.index-answers-place.result (let below = c.loop-place-test.true in omega arith)
    ∙ ap (λ (told : Told). Some told) (sym c.index-answers-place.is) in (
      (let long = before.0 in let is = many in omega arith),
      (c.put_point.ensures.cut ∙ before.1),
      (λ p seconds states told seen place verdict at.
          elim (slice_get-either old found.0 place verdict (subst (λ (vs : List Verdict). slice_get vs place ≡ Some verdict) grown at)) [
            | inl earlier ↦ before.2 p seconds states told seen place verdict earlier
            | inr last ↦
                let here : place ≡ c.loop-place.place = last.0 ∙ before.0 in
                let is : IsFound numbers p seconds states (slice_get conditions c.loop-place.place) found.0 = found.2 p seconds states (told c.loop-place.place c.index-answers-place.result told-at) seen in
                subst (λ n. IsFound numbers p seconds states (slice_get conditions n) verdict) (sym here)
                (subst (λ v. IsFound numbers p seconds states (slice_get conditions c.loop-place.place) v) last.1 is)
          ]),
    )
