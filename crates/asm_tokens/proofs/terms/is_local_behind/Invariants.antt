use Rattle.std.proofs.Common.{◌≡◌, drop}
use Rattle.asm_tokens.specs.Terms.{is_local_behind}
use Rattle.asm_tokens.proofs.terms.is_local_behind.Given as goal

abbrev pub invariant-loop-i : goal.invariant-loop-i
invariant-loop-i l = is_local_behind (drop l.i l.word) ≡ is_local_behind l.word
