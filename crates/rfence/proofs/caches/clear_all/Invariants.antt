use Rattle.std.proofs.Common.{◌≡◌, ◌++◌, drop, map, take}
use Rattle.rfence.proofs.caches.clear_all.Given as goal

abbrev pub invariant-loop-cache : goal.invariant-loop-cache
invariant-loop-cache g l =
    l.cache-items ≡ map g.C.Fenced.emptied (take l.cache-index l.fn.caches) ++ drop l.cache-index l.fn.caches
