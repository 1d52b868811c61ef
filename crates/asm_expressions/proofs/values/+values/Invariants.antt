use Rattle.std.proofs.Common.{◌≡◌, ◌+◌, ◌*◌, length}
use Rattle.asm_tokens.specs.Readings.{spots_of}
use Rattle.asm_expressions.specs.Symbols.{context_of}
use Rattle.asm_expressions.specs.Values.{joins, value_read, value_at}
use Rattle.asm_expressions.proofs.values.+values.Given as goal

abbrev pub decreases-value_at : goal.decreases-value_at
decreases-value_at l = 3 * l.depth

abbrev pub decreases-with_operators : goal.decreases-with_operators
decreases-with_operators l = 3 * l.depth + 2

abbrev pub decreases-alone : goal.decreases-alone
decreases-alone l = 3 * l.depth + 2

abbrev pub decreases-bracketed : goal.decreases-bracketed
decreases-bracketed l = 3 * l.depth + 1

abbrev pub invariant-with_operators-operators : goal.invariant-with_operators-operators
invariant-with_operators-operators l =
    joins (value_at (context_of l.scope) l.depth l.inner) l.level l.left (value_read l.found.value (spots_of l.found.rest.now))
    ≡ joins (value_at (context_of l.scope) l.depth l.inner) l.level (length (spots_of l.tokens)) (value_read l.initial.found.value (spots_of l.initial.found.rest.now))

abbrev pub decreases-with_operators-operators : goal.decreases-with_operators-operators
decreases-with_operators-operators l = l.left
