use Rattle.rfence.proofs.Changes.{set-changed}
use Rattle.rfence.proofs.caches.clear_at.Goals as goal

pub returns : goal.returns
returns g c = set-changed g.C.Fenced.emptied c.args.caches.now c.args.t c.index-caches-t.result c.clear.new.self c.requires c.clear.ensures
