use Rattle.std.proofs.Common.{ℕ, ◌<◌}
use Rattle.marked_conditions.specs.Needs.{IsTellingAt}
use Rattle.marked_conditions.proofs.needs.has_telling.Given as goal

abbrev pub invariant-loop-k : goal.invariant-loop-k
invariant-loop-k l = (j : ℕ) → j < l.k → ¬ IsTellingAt l.p l.events l.marks j
