use Rattle.std.proofs.Common.{◌≡◌}
use Rattle.asm_expressions.specs.Symbols.{context_of}
use Rattle.asm_tokens.specs.Readings.{spots_of}
use Rattle.asm_program.specs.Data.{numbers_in, listed_numbers}
use Rattle.asm_program.specs.Inside.Passes.{with_before}
use Rattle.asm_program.proofs.data.add_numbers.Given as goal

abbrev pub invariant-numbers : goal.invariant-numbers
invariant-numbers l =
    with_before l.numbers.items (numbers_in (context_of l.scope) l.size l.left l.most l.at (spots_of l.rest))
    ≡ with_before l.initial.numbers.items (listed_numbers (context_of l.scope) l.size l.left (spots_of l.operands))

abbrev pub decreases-numbers : goal.decreases-numbers
decreases-numbers l = l.most
