use Rattle.std.proofs.Common.{◌≡◌, drop}
use Rattle.asm_instructions.specs.Pcrel.{distance_at}
use Rattle.asm_instructions.proofs.pcrel.distance_at.Given as goal

abbrev pub invariant-loop-high : goal.invariant-loop-high
invariant-loop-high l = distance_at l.at (drop l.high-index l.highs) ≡ distance_at l.at l.highs
