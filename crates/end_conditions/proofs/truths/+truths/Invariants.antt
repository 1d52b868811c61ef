use Rattle.std.proofs.Common.{◌≡◌, ◌+◌, ◌*◌, length}
use Rattle.asm_tokens.specs.Readings.{spots_of}
use Rattle.asm_expressions.specs.Symbols.{context_of}
use Rattle.end_conditions.specs.Truths.{connections, truth_at, truth_read}
use Rattle.end_conditions.proofs.truths.+truths.Given as goal

abbrev pub decreases-truth_at : goal.decreases-truth_at
decreases-truth_at g l = 3 * l.depth

abbrev pub decreases-with_connectives : goal.decreases-with_connectives
decreases-with_connectives g l = 3 * l.depth + 2

abbrev pub decreases-single : goal.decreases-single
decreases-single g l = 3 * l.depth + 2

abbrev pub decreases-enclosed_truth : goal.decreases-enclosed_truth
decreases-enclosed_truth g l = 3 * l.depth + 1

abbrev pub invariant-with_connectives-connectives : goal.invariant-with_connectives-connectives
invariant-with_connectives-connectives g l =
    connections (truth_at (context_of l.scope) (g.F.FinalState.finals l.«end») l.depth l.inner) l.level l.left (truth_read l.found.holds (spots_of l.found.rest.now))
    ≡ connections (truth_at (context_of l.scope) (g.F.FinalState.finals l.«end») l.depth l.inner) l.level (length (spots_of l.tokens)) (truth_read l.initial.found.holds (spots_of l.initial.found.rest.now))

abbrev pub decreases-with_connectives-connectives : goal.decreases-with_connectives-connectives
decreases-with_connectives-connectives g l = l.left
