use Rattle.std.proofs.Common.{ap}
use Rattle.std.specs.Prelude.{reverse}
use Rattle.tlb_model.proofs.Places.{seen-room}
use Rattle.tlb_model.proofs.live.Live.of.Goals as goal

pub returns : goal.returns
returns g c = ap reverse (seen-room c.args.next c.args.places.now c.args.dates.now c.args.dropped c.requires)
