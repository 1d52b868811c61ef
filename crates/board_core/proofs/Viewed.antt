-- What the machine of a view is: kept well, standing for the view's history, and with one of each for each hart.
use Rattle.std.proofs.Common.{◌≡◌, List, subst}
use Rattle.board_machine.specs.declared.machine.Machine.{Machine}
use Rattle.board_core.specs.Course.{Course}
use Rattle.board_core.specs.History.{Event}
use Rattle.board_core.specs.Opening.{Opening}
use Rattle.board_core.specs.Inside.Stands.{IsKept, IsSized, StandsFor}
use Rattle.board_machine.proofs.Situations.{sized}

pub record IsViewed (b : Course) (m : Machine) : Type 0 where
  pub kept : IsKept b.opening b.past
  pub stands : StandsFor b.opening b.past m
  pub sized : IsSized b.opening.config m

pub viewed : {o : Opening} {past : List Event} {m : Machine} {b : Course} → record { opening = o; past = past } ≡ b → IsKept o past × StandsFor o past m → IsViewed b m
viewed {o} {past} {m} {b} is known =
    subst (λ (b : Course). IsViewed b m) is (record { kept = known.0; stands = known.1; sized = sized o past m known.0.good.at_most_128_harts known.1 })
