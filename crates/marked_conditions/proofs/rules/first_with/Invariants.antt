use Rattle.std.proofs.Common.{ℕ, ◌<◌, ◌≤◌}
use Rattle.marked_conditions.specs.Marked.{IsAtWith}
use Rattle.marked_conditions.proofs.rules.first_with.Given as goal

abbrev pub invariant-loop-k : goal.invariant-loop-k
invariant-loop-k l = (j : ℕ) → j < l.k → l.from ≤ j → ¬ IsAtWith l.p l.events l.marks j
