use Rattle.std.proofs.Common.{◌≡◌}
use Rattle.std.specs.Io.KnownBytes.{Appends}
use Rattle.std.specs.List.{flat_map, range_with_len}
use Rattle.monitor.specs.Table.{row}
use Rattle.monitor.proofs.table.print_rows.Given as goal

abbrev pub invariant-loop-h : goal.invariant-loop-h
invariant-loop-h g l =
    Appends (g.W.Sink.written l.fn.sink) (g.W.Sink.written l.sink) (flat_map (row l.board.opening l.board.past) (range_with_len 0 l.h))
    × (g.W.Sink.failures l.sink ≡ g.W.Sink.failures l.fn.sink)
