use Rattle.std.proofs.Common.{◌≡◌, ◌++◌, drop, map}
use Rattle.std.specs.Prelude.{filter_map}
use Rattle.asm_expressions.specs.Symbols.{named_of}
use Rattle.asm_program.specs.Inside.Passes.{standing_of}
use Rattle.asm_program.specs.Written.{high_of}
use Rattle.asm_program.proofs.highs.all_highs.Given as goal

abbrev pub invariant-loop-statement : goal.invariant-loop-statement
invariant-loop-statement l =
    l.highs.items ++ filter_map (high_of (map named_of l.symbols)) (map standing_of (drop l.statement-index l.statements))
    ≡ filter_map (high_of (map named_of l.symbols)) (map standing_of l.statements)
