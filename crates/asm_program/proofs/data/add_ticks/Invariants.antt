use Rattle.std.proofs.Common.{◌≡◌}
use Rattle.asm_expressions.specs.Symbols.{context_of}
use Rattle.asm_tokens.specs.Readings.{spots_of}
use Rattle.asm_program.specs.Data.{tick_list, listed_ticks}
use Rattle.asm_program.specs.Inside.Passes.{with_before}
use Rattle.asm_program.proofs.data.add_ticks.Given as goal

abbrev pub invariant-ticks : goal.invariant-ticks
invariant-ticks l =
    with_before l.ticks.items (tick_list (context_of l.scope) l.most (spots_of l.rest))
    ≡ with_before l.initial.ticks.items (listed_ticks (context_of l.scope) (spots_of l.operands))

abbrev pub decreases-ticks : goal.decreases-ticks
decreases-ticks l = l.most
