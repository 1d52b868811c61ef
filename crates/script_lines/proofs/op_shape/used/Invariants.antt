use Rattle.std.proofs.Common.{length, ◌≤◌}
use Rattle.script_lines.specs.Packing.{used}
use Rattle.script_lines.proofs.op_shape.used.Given as goal

abbrev pub invariant-loop-count : goal.invariant-loop-count
invariant-loop-count l = (used l.numbers ≤ l.count) × (l.count ≤ length l.numbers)

abbrev pub decreases-loop-count : goal.decreases-loop-count
decreases-loop-count l = l.count
