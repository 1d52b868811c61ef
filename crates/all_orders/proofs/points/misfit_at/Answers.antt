use Rattle.std.proofs.Common.{◌≡◌, sym, subst, ap, ◌∙◌}
use Rattle.std.specs.Prelude.{MatchOption, Option, Some, slice_get}
use Rattle.std.proofs.lemmas.Option.{slice_get-get_or}
use Rattle.conditions.specs.declared.misfits.Misfit.{Misfit as Word}
use Rattle.conditions.specs.Condition.{Condition}
use Rattle.test_report.specs.Misfits.{IsMisfitOfMarked}
use Rattle.all_orders.specs.Verdicts.{rule_of}
use Rattle.all_orders.proofs.Verdicts.{no-misfit-beyond}
use Rattle.all_orders.proofs.points.misfit_at.Goals as goal

pub returns-in-Some : goal.returns-in-Some
returns-in-Some c =
    let found = c.in-Some.ensures.lookup in
    let one : Condition = c.in-Some.condition.now in
    let asked : slice_get c.args.conditions.now c.args.place ≡ Some one =
    slice_get-get_or c.args.conditions.now c.args.place one found.3.0 ∙ ap (λ (x : Condition). Some x) (sym found.1) in
    subst (λ (asked : Option Condition). MatchOption c.first_misfit_with.result ((word : Word) → ¬ IsMisfitOfMarked c.args.harts (rule_of asked) word) (IsMisfitOfMarked c.args.harts (rule_of asked)))
    (sym asked) c.first_misfit_with.ensures

pub returns-in-None : goal.returns-in-None
returns-in-None c word is = no-misfit-beyond c.args.harts word c.args.conditions.now c.args.place c.in-None.ensures.lookup.3 is
