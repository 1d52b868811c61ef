use Rattle.std.proofs.Common.{◌≡◌, None, drop, map}
use Rattle.asm_expressions.specs.Symbols.{last_label_above, named_of}
use Rattle.asm_expressions.proofs.symbols.last_label_above.Given as goal

abbrev pub invariant-loop-symbol : goal.invariant-loop-symbol
invariant-loop-symbol l =
    last_label_above l.digits l.statement l.last (map named_of (drop l.symbol-index l.symbols)) ≡ last_label_above l.digits l.statement None (map named_of l.symbols)
