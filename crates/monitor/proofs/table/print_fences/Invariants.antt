use Rattle.std.proofs.Common.{◌≡◌, ◌++◌}
use Rattle.std.specs.Io.KnownBytes.{Appends}
use Rattle.std.specs.List.{flat_map}
use Rattle.board_core.specs.Fences.{waiting}
use Rattle.monitor.specs.Table.{fence_line}
use Rattle.monitor.proofs.table.print_fences.Given as goal

abbrev pub invariant-loop-request : goal.invariant-loop-request
invariant-loop-request g l =
    (l.yielded ++ l.request-iterator ≡ waiting l.board.opening l.board.past l.h)
    × Appends (g.W.Sink.written l.fn.sink) (g.W.Sink.written l.sink) (flat_map (fence_line l.h) l.yielded)
    × (g.W.Sink.failures l.sink ≡ g.W.Sink.failures l.fn.sink)
