use Rattle.tlb_model.proofs.Living.{covered_is_gone}
use Rattle.tlb_model.proofs.laws.covered_is_gone.Goals as goal

pub returns : goal.returns
returns g c = covered_is_gone
