use Rattle.tlb_model.proofs.Lookups.{IsSought}
use Rattle.tlb_model.proofs.cache.Cache.lookup.Given as goal

abbrev pub invariant-loop-left : goal.invariant-loop-left
invariant-loop-left g l = IsSought (g.E.Cached.holds l.key) l.self-inside.places.items l.self-inside.dropped l.self-inside.next l.left

abbrev pub decreases-loop-left : goal.decreases-loop-left
decreases-loop-left g l = l.left
