use Rattle.tlb_model.proofs.Living.{live_was_filled}
use Rattle.tlb_model.proofs.laws.live_was_filled.Goals as goal

pub returns : goal.returns
returns g c = live_was_filled
