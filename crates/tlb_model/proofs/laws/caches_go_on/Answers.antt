use Rattle.tlb_model.proofs.Living.{goes_on}
use Rattle.tlb_model.proofs.laws.caches_go_on.Goals as goal

pub returns : goal.returns
returns g c = goes_on
