use Rattle.std.proofs.Common.{◌-◌, ◌*◌, ◌≤◌, length}
use Rattle.sv39.specs.Inside.Lines.{AreUnmarked}
use Rattle.sv39.proofs.lines.next_marked.Given as goal

abbrev pub invariant-loop-line : goal.invariant-loop-line
invariant-loop-line l = record {
  later : l.from ≤ l.line;
  within : l.line ≤ 64 * length l.marks;
  none : AreUnmarked l.marks l.from l.line;
  none_other : AreUnmarked l.others l.from l.line;
}

abbrev pub decreases-loop-line : goal.decreases-loop-line
decreases-loop-line l = 64 * length l.marks - l.line
