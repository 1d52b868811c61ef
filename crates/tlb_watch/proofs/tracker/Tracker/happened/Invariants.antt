use Rattle.std.proofs.Common.{◌≡◌, ◌++◌}
use Rattle.std.specs.List.{AllZip}
use Rattle.std.specs.Vec.Iter.{into_iter_items}
use Rattle.sv39.specs.Memory.{word_in}
use Rattle.tlb_watch.specs.Effects.{effect_on}
use Rattle.tlb_watch.specs.Kept.{all_kept_after}
use Rattle.tlb_watch.specs.Tracked.{Follows, satp_in}
use Rattle.tlb_watch.proofs.tracker.Tracker.happened.Given as goal

abbrev pub invariant-loop-watch : goal.invariant-loop-watch
invariant-loop-watch l =
    (l.yielded ++ into_iter_items l.watch-iterator ≡ into_iter_items l.initial.watch-iterator)
    × AllZip (Follows l.effect (word_in l.ram) l.satps) l.yielded l.after.items
    × (l.after.items ≡ all_kept_after (effect_on l.effect) (word_in l.ram) (satp_in l.satps) l.yielded)
