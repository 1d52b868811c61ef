use Rattle.std.proofs.Common.{arith}
use Rattle.std.proofs.lemmas.List.{length-reverse}
use Rattle.tlb_model.specs.Inside.Places.{seen}
use Rattle.tlb_model.proofs.Places.{length-seen}
use Rattle.tlb_model.proofs.cache.Cache.live.Goals as goal

pub returns-clause-room : goal.returns-clause-room
returns-clause-room g c =
    let fills = seen c.self.inside.next 16 c.deref.result.now c.self.inside.dates c.self.inside.dropped in
    rw c.of.ensures (omega (arith, length-seen c.self.inside.next 16 c.deref.result.now c.self.inside.dates c.self.inside.dropped, length-reverse fills))
