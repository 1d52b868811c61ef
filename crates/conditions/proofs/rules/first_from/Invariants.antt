use Rattle.std.proofs.Common.{ℕ, ◌<◌, ◌≤◌}
use Rattle.conditions.specs.Rules.{IsAt}
use Rattle.conditions.proofs.rules.first_from.Given as goal

abbrev pub invariant-loop-k : goal.invariant-loop-k
invariant-loop-k l = (j : ℕ) → j < l.k → l.from ≤ j → ¬ IsAt l.p l.events j
