use Rattle.std.proofs.Common.{◌≡◌, ◌+◌, drop}
use Rattle.asm_tokens.specs.Readings.{spots_of}
use Rattle.asm_instructions.specs.Operands.{before_comma}
use Rattle.asm_instructions.proofs.operands.before_comma.Given as goal

abbrev pub invariant-loop-i : goal.invariant-loop-i
invariant-loop-i l = l.i + before_comma (spots_of (drop l.i l.tokens)) ≡ before_comma (spots_of l.tokens)
