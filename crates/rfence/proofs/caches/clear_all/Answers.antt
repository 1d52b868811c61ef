use Rattle.rfence.proofs.Changes.{mapped-more}
use Rattle.rfence.proofs.caches.clear_all.Goals as goal

pub loop-cache-preserved : goal.loop-cache-preserved
loop-cache-preserved g c =
    mapped-more g.C.Fenced.emptied c.args.caches.now c.loop-cache.cache-items c.loop-cache.cache-index c.cache-item.result c.clear.new.self c.loop-cache-test.true c.loop-cache.invariant
    c.clear.ensures
