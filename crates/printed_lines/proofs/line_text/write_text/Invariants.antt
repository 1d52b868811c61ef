use Rattle.std.proofs.Common.{◌≡◌, ◌+◌, ◌++◌, length, take}
use Rattle.printed_lines.proofs.line_text.write_text.Given as goal

-- the front of the text is written
abbrev pub invariant-loop-byte : goal.invariant-loop-byte
invariant-loop-byte l =
    (l.end ≡ l.start + l.byte-index) × (length l.bytes ≡ length l.fn.bytes)
    × (take l.end l.bytes ≡ take l.start l.fn.bytes ++ take l.byte-index l.piece)
