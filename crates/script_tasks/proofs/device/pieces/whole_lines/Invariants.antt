use Rattle.std.proofs.Common.{◌≡◌, ◌++◌, eqb, List, ℕ, length, not, true}
use Rattle.std.specs.List.{list_all}
use Rattle.script_tasks.proofs.device.pieces.whole_lines.Given as goal

abbrev pub invariant-loop-front : goal.invariant-loop-front
invariant-loop-front l = (behind : List ℕ) × (l.bytes ≡ l.front ++ behind) × (list_all (λ b. not (eqb b 10)) behind ≡ true)

abbrev pub decreases-loop-front : goal.decreases-loop-front
decreases-loop-front l = length l.front
