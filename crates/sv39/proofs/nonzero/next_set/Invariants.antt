use Rattle.std.proofs.Common.{◌-◌, ◌≤◌, length}
use Rattle.sv39.specs.Nonzero.{IsClear}
use Rattle.sv39.proofs.nonzero.next_set.Given as goal

abbrev pub invariant-loop-place : goal.invariant-loop-place
invariant-loop-place l = record { after : l.from ≤ l.place; clear : IsClear l.words l.from l.place }

abbrev pub decreases-loop-place : goal.decreases-loop-place
decreases-loop-place l = length l.words - l.place
