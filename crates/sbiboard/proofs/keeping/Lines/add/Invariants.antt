use Rattle.std.proofs.Common.{◌≡◌}
use Rattle.std.specs.BTreeMap.{btree_map_len}
use Rattle.sbiboard.proofs.Kept.{HasKept}
use Rattle.sbiboard.proofs.keeping.Lines.add.Given as goal

abbrev pub invariant-loop-step : goal.invariant-loop-step
invariant-loop-step g l =
    HasKept (g.K.Sink.written l.fn.self.sink) (g.K.Sink.written l.self.sink) l.self.page
    × (g.K.Sink.failures l.self.sink ≡ g.K.Sink.failures l.fn.self.sink)

abbrev pub decreases-loop-step : goal.decreases-loop-step
decreases-loop-step g l = btree_map_len l.self.early
