use Rattle.std.proofs.Common.{◌≡◌, ◌+◌, drop}
use Rattle.asm_tokens.specs.Readings.{spots_of}
use Rattle.asm_program.specs.Parts.{part_length}
use Rattle.asm_program.proofs.parts.part_length.Given as goal

abbrev pub invariant-loop-i : goal.invariant-loop-i
invariant-loop-i l = l.i + part_length (spots_of (drop l.i l.tokens)) ≡ part_length (spots_of l.tokens)
