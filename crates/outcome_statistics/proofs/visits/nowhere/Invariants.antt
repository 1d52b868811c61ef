use Rattle.std.proofs.Common.{◌≡◌, replicate}
use Rattle.std.specs.Prelude.{None}
use Rattle.outcome_statistics.proofs.visits.nowhere.Given as goal

abbrev pub invariant-loop : goal.invariant-loop
invariant-loop l = l.guests.items ≡ replicate l.counter None
