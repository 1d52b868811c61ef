use Rattle.std.proofs.Common.{◌≡◌, ◌+◌, ◌≤◌, take}
use Rattle.asm_tokens.specs.Places.{text_place_after}
use Rattle.asm_tokens.proofs.places.place_at.Given as goal

abbrev pub invariant-loop-byte : goal.invariant-loop-byte
invariant-loop-byte l =
    (record { line = l.line; column = l.column } ≡ text_place_after (take l.byte-index l.front)) × (l.line ≤ l.byte-index + 1) × (l.column ≤ l.byte-index + 1)
