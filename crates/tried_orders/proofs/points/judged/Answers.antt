use Rattle.std.proofs.Common.{◌≡◌, ◌≤◌, List, length, refl, subst}
use Rattle.std.specs.Prelude.{Some, slice_get}
use Rattle.std.proofs.lemmas.Option.{slice_get_read}
use Rattle.outcome_statistics.specs.declared.findings.Judged.{Judged}
use Rattle.tried_orders.proofs.Trying.{judges-none, judges-some}
use Rattle.tried_orders.proofs.points.judged.Goals as goal

pub returns-in-Some : goal.returns-in-Some
returns-in-Some c harts conditions tried right =
    let look = c.in-Some.ensures.lookup in
    let one : Judged = c.in-Some.judged.now in
    let there : slice_get c.deref.result.now c.args.i ≡ Some one =
    slice_get_read c.deref.result.now (length c.deref.result.now) c.args.i one refl look.3.0 look.1 in
    judges-some harts conditions tried c.args.found.now c.args.i one right
    (subst (λ (all : List Judged). slice_get all c.args.i ≡ Some one) c.deref.ensures.value there)

pub returns-in-None : goal.returns-in-None
returns-in-None c harts conditions tried right =
    judges-none harts conditions tried c.args.found.now c.args.i c.none.result right
    (subst (λ (all : List Judged). length all ≤ c.args.i) c.deref.ensures.value c.in-None.ensures.lookup.3)
