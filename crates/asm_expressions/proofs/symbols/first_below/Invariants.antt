use Rattle.std.proofs.Common.{◌≡◌, drop, map}
use Rattle.asm_expressions.specs.Symbols.{first_below, named_of}
use Rattle.asm_expressions.proofs.symbols.first_below.Given as goal

abbrev pub invariant-loop-symbol : goal.invariant-loop-symbol
invariant-loop-symbol l =
    first_below l.digits l.statement (map named_of (drop l.symbol-index l.symbols)) ≡ first_below l.digits l.statement (map named_of l.symbols)
