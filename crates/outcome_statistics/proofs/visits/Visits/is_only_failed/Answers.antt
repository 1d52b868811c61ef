use Rattle.std.proofs.Common.{◌≡◌, ◌↔◌, Bool, true, sym, subst, ◌∙◌}
use Rattle.outcome_statistics.specs.Visits.{HasKey}
use Rattle.outcome_statistics.proofs.Keys.{spot-has}
use Rattle.outcome_statistics.proofs.Visiting.{only-else, only-then}
use Rattle.outcome_statistics.proofs.visits.Visits.is_only_failed.Goals as goal

pub returns-then-contains : goal.returns-then-contains
returns-then-contains c =
    let failed = (spot-has c.args.self.now.failed c.args.spot.now).0 (sym c.contains.ensures ∙ c.if-contains.true) in
    only-then c.contains-then-contains.result _ _ failed
    (subst (λ (b : Bool). (b ≡ true) ↔ HasKey c.args.self.now.succeeded.keys c.args.spot.now) (sym c.contains-then-contains.ensures) (spot-has c.args.self.now.succeeded c.args.spot.now))

pub returns-else-contains : goal.returns-else-contains
returns-else-contains c = only-else c.contains.result _ _ c.if-contains.false
    (subst (λ (b : Bool). (b ≡ true) ↔ HasKey c.args.self.now.failed.keys c.args.spot.now) (sym c.contains.ensures) (spot-has c.args.self.now.failed c.args.spot.now))
