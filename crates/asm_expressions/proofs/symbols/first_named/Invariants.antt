use Rattle.std.proofs.Common.{◌≡◌, drop, map}
use Rattle.asm_expressions.specs.Symbols.{symbol_named, named_of}
use Rattle.asm_expressions.proofs.symbols.first_named.Given as goal

abbrev pub invariant-loop-symbol : goal.invariant-loop-symbol
invariant-loop-symbol l = symbol_named l.name (map named_of (drop l.symbol-index l.symbols)) ≡ symbol_named l.name (map named_of l.symbols)
