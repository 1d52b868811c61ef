use Rattle.std.proofs.Common.{◌≡◌, ℕ, List, Option, length}
use Rattle.std.specs.Io.KnownBytes.{Appends}
use Rattle.printed_lines.proofs.sink.write_all.Given as goal

-- what puts the rest puts the piece
abbrev pub invariant-loop-rest : goal.invariant-loop-rest
invariant-loop-rest g l =
    ((after : Option (List ℕ)) → Appends (g.W.Sink.written l.sink) after l.rest → Appends (g.W.Sink.written l.fn.sink) after l.fn.piece)
    × (g.W.Sink.failures l.sink ≡ g.W.Sink.failures l.fn.sink)

abbrev pub decreases-loop-rest : goal.decreases-loop-rest
decreases-loop-rest g l = length l.rest
