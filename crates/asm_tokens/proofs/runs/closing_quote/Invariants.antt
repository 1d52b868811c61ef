use Rattle.std.proofs.Common.{◌≡◌, false, drop}
use Rattle.asm_tokens.specs.Runs.{closing_quote}
use Rattle.asm_tokens.proofs.runs.closing_quote.Given as goal

abbrev pub invariant-loop-i : goal.invariant-loop-i
invariant-loop-i l = closing_quote l.i l.escaped (drop l.i l.text) ≡ closing_quote 0 false l.text
