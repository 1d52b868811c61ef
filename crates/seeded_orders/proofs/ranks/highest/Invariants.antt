use Rattle.std.proofs.Common.{◌≡◌, drop}
use Rattle.std.specs.Prelude.{None}
use Rattle.seeded_orders.specs.Ranks.{highest}
use Rattle.seeded_orders.proofs.ranks.highest.Given as goal

abbrev pub invariant-loop-step : goal.invariant-loop-step
invariant-loop-step l = highest l.ranks l.best (drop l.step-index l.steps) ≡ highest l.ranks None l.steps
