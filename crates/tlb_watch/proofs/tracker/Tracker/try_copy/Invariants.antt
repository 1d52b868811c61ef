use Rattle.std.proofs.Common.{◌≡◌, take}
use Rattle.tlb_watch.proofs.tracker.Tracker.try_copy.Given as goal

abbrev pub invariant-loop-watch : goal.invariant-loop-watch
invariant-loop-watch l = l.watches.items ≡ take l.watch-index l.watch-items
