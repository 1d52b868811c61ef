use Rattle.std.proofs.Common.{◌≡◌, ℕ, ◌-◌, ◌*◌, ◌≤◌, get_or, length}
use Rattle.sv39.specs.Nonzero.{IsClear}
use Rattle.sv39.proofs.lines.clear_marked.Given as goal

abbrev pub invariant-loop-line : goal.invariant-loop-line
invariant-loop-line l = record {
  within : l.line ≤ 64 * length l.marks;
  clear : IsClear l.words 0 (8 * l.line);
  rest : (k : ℕ) → 8 * l.line ≤ k → get_or l.words k 0 ≡ get_or l.initial.words k 0;
}

abbrev pub decreases-loop-line : goal.decreases-loop-line
decreases-loop-line l = 64 * length l.marks - l.line
