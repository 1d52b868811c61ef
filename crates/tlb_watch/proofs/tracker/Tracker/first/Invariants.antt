use Rattle.std.proofs.Common.{◌≡◌, map, take}
use Rattle.tlb_watch.specs.Tracked.{first_watch}
use Rattle.tlb_watch.proofs.tracker.Tracker.first.Given as goal

abbrev pub invariant-loop-at : goal.invariant-loop-at
invariant-loop-at l = l.watches.items ≡ map first_watch (take l.at-index l.addresses)
