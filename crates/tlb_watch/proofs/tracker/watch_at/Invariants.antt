use Rattle.std.proofs.Common.{◌≡◌}
use Rattle.std.specs.List.{AllWithin}
use Rattle.tlb_watch.specs.Watched.{WatchedAddress}
use Rattle.tlb_watch.proofs.tracker.watch_at.Given as goal

abbrev pub invariant-loop-watch : goal.invariant-loop-watch
invariant-loop-watch l = AllWithin (λ (w : WatchedAddress). w.at ≡ l.at → ⊥) l.watches 0 l.watch-index
