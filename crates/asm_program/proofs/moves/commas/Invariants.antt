use Rattle.std.proofs.Common.{◌≡◌, ◌≤◌, ◌+◌, drop}
use Rattle.asm_tokens.specs.Readings.{spots_of}
use Rattle.asm_program.specs.Moves.{commas}
use Rattle.asm_program.proofs.moves.commas.Given as goal

abbrev pub invariant-loop-placed : goal.invariant-loop-placed
invariant-loop-placed l =
    (l.count + commas (spots_of (drop l.placed-index l.operands)) ≡ commas (spots_of l.operands)) × (l.count ≤ l.placed-index)
