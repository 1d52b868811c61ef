use Rattle.std.proofs.Common.{◌^◌, ◌<◌, length}
use Rattle.tlb_model.proofs.Fencing.{IsFenced}
use Rattle.tlb_model.proofs.cache.Cache.apply.Given as goal

abbrev pub invariant-loop-left : goal.invariant-loop-left
invariant-loop-left g l =
    (l.left < 2 ^ length l.self-inside.places.items)
    × IsFenced (g.E.Cached.covers l.flush) l.self-inside.places.items l.self-inside.dropped l.left l.dropped

abbrev pub decreases-loop-left : goal.decreases-loop-left
decreases-loop-left g l = l.left
