use Rattle.std.proofs.Common.{◌≡◌, true, subst, sym}
use Rattle.std.specs.Prelude.{◌↔◌}
use Rattle.condition_script.specs.declared.rules.Rule.{Rule}
use Rattle.conditions.specs.Vacuity.{MeetsSecond}
use Rattle.conditions.proofs.vacuity.meets_second.Goals as goal

pub returns-in-NeverAfter : goal.returns-in-NeverAfter
returns-in-NeverAfter c =
    let P : Rule → Type 0 = λ r. (c.has_matching.result ≡ true) ↔ MeetsSecond r c.args.events.now in
    subst P (sym c.in-NeverAfter.is) c.has_matching.ensures
