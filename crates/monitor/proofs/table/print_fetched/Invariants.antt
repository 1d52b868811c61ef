use Rattle.std.proofs.Common.{◌≡◌, ◌++◌}
use Rattle.std.specs.Prelude.{reverse}
use Rattle.std.specs.Io.KnownBytes.{Appends}
use Rattle.std.specs.List.{flat_map}
use Rattle.board_core.specs.Memory.{caches_of}
use Rattle.monitor.specs.Table.{word_line}
use Rattle.monitor.proofs.table.print_fetched.Given as goal

abbrev pub invariant-loop-fill : goal.invariant-loop-fill
invariant-loop-fill g l =
    (reverse (l.yielded ++ l.fill-iterator) ≡ (caches_of l.board.opening l.board.past l.h).words.live)
    × Appends (g.W.Sink.written l.fn.sink) (g.W.Sink.written l.sink) (flat_map (λ fill. word_line l.h fill.item) l.yielded)
    × (g.W.Sink.failures l.sink ≡ g.W.Sink.failures l.fn.sink)
