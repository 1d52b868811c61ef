use Rattle.std.proofs.Common.{◌≡◌, ◌+◌, drop}
use Rattle.asm_tokens.specs.Runs.{run_length}
use Rattle.asm_tokens.proofs.runs.run_len.Given as goal

abbrev pub invariant-loop-i : goal.invariant-loop-i
invariant-loop-i l = l.i + run_length l.run (drop l.i l.text) ≡ run_length l.run l.text
