use Rattle.std.proofs.Common.{◌≡◌, drop, map}
use Rattle.asm_expressions.specs.Symbols.{named_of}
use Rattle.asm_program.specs.Inside.Passes.{nothing_written, standing_of, sum_in, sum_of}
use Rattle.asm_program.proofs.output.write_each.Given as goal

abbrev pub invariant-loop-statement : goal.invariant-loop-statement
invariant-loop-statement l =
    sum_in (record { symbols = map named_of l.symbols; highs = l.highs; entries = l.entries }) (sum_of l.output) (map standing_of (drop l.statement-index l.statements))
    ≡ sum_in (record { symbols = map named_of l.symbols; highs = l.highs; entries = l.entries }) nothing_written (map standing_of l.statements)
