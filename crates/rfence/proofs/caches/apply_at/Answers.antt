use Rattle.rfence.proofs.Changes.{set-changed}
use Rattle.rfence.proofs.caches.apply_at.Goals as goal

pub returns : goal.returns
returns g c = set-changed (g.C.Fenced.dropped c.args.flush) c.args.caches.now c.args.t c.index-caches-t.result c.apply.new.self c.requires c.apply.ensures
