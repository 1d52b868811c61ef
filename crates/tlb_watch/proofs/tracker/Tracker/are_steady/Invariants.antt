use Rattle.std.proofs.Common.{◌≡◌, take}
use Rattle.sv39.specs.Memory.{word_in}
use Rattle.tlb_watch.specs.Deciding.{is_steady_in}
use Rattle.tlb_watch.proofs.tracker.Tracker.are_steady.Given as goal

abbrev pub invariant-loop-watch : goal.invariant-loop-watch
invariant-loop-watch l = l.steady ≡ is_steady_in (take l.watch-index l.watch-items) l.at (word_in l.ram) l.satp l.kind
