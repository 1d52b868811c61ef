use Rattle.std.proofs.Common.{refl, sym, subst, inl, inr}
use Rattle.std.specs.Prelude.{Option, slice_get}
use Rattle.conditions.specs.Condition.{Condition}
use Rattle.model_check.specs.declared.answers.Answer.{Answer}
use Rattle.test_report.specs.declared.verdict.Verdict.{Verdict}
use Rattle.all_orders.specs.Inside.Told.{IsEndless}
use Rattle.all_orders.specs.Verdicts.{IsFound}
use Rattle.all_orders.proofs.Verdicts.{some-end}
use Rattle.all_orders.proofs.points.of_ending.Goals as goal

pub returns-in-Stopped : goal.returns-in-Stopped
returns-in-Stopped g c p seconds states met endless needs seen =
    let n = c.args.search.now.scope.now.widest in
    (subst (λ (answer : Answer). IsEndless n p seconds states c.args.told.now.most answer) c.in-Stopped.is endless).so.3

pub returns-in-TooMany : goal.returns-in-TooMany
returns-in-TooMany g c p seconds states met endless needs seen =
    let n = c.args.search.now.scope.now.widest in
    let asked : Option Condition = slice_get c.args.search.now.trial.now.case.conditions.now c.args.place in
    let is = subst (λ (answer : Answer). IsEndless n p seconds states c.args.told.now.most answer) c.in-TooMany.is endless in
    subst (λ (verdict : Verdict). IsFound n p seconds states asked verdict) (sym c.too_many.ensures) (is.limit refl, (is.blocks, is.are, inl is.so))

pub returns-in-Holds : goal.returns-in-Holds
returns-in-Holds g c p seconds states met endless needs seen =
    let n = c.args.search.now.scope.now.widest in
    c.without_end.ensures p seconds states met
    (subst (λ (answer : Answer). IsEndless n p seconds states c.args.told.now.most answer) c.in-Holds.is endless).so needs seen

pub returns-in-Fails : goal.returns-in-Fails
returns-in-Fails g c p seconds states met endless needs seen =
    let n = c.args.search.now.scope.now.widest in
    c.of_need.ensures p seconds states (λ yes. met) (λ yes. inr (λ of. some-end n p seconds states c.args.told.now.most c.args.endless.now endless c.in-Fails.is)) (λ no. absurd (cc)) needs seen
