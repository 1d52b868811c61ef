use Rattle.std.proofs.Common.{◌≡◌, sym, subst, ap, ◌∙◌}
use Rattle.std.specs.Prelude.{Some, slice_get}
use Rattle.std.proofs.lemmas.Option.{slice_get-get_or}
use Rattle.conditions.specs.Condition.{Condition}
use Rattle.all_orders.specs.Verdicts.{BeginsWithMaybe}
use Rattle.all_orders.proofs.points.is_maybe.Goals as goal

pub returns-in-Some : goal.returns-in-Some
returns-in-Some c is =
    let found = c.in-Some.ensures.lookup in
    let one : Condition = c.in-Some.condition.now in
    let asked : slice_get c.args.conditions.now c.args.place ≡ Some one =
    slice_get-get_or c.args.conditions.now c.args.place one found.3.0 ∙ ap (λ (x : Condition). Some x) (sym found.1) in
    subst BeginsWithMaybe (sym asked) is
