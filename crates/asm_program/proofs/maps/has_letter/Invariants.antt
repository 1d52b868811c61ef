use Rattle.std.proofs.Common.{◌≡◌, ◌==◌, drop}
use Rattle.std.specs.List.{list_any}
use Rattle.asm_program.proofs.maps.has_letter.Given as goal

abbrev pub invariant-loop-byte : goal.invariant-loop-byte
invariant-loop-byte l = list_any (λ b. b == l.letter) (drop l.byte-index l.word) ≡ list_any (λ b. b == l.letter) l.word
