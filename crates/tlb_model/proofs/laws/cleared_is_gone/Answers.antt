use Rattle.tlb_model.proofs.Living.{cleared_is_gone}
use Rattle.tlb_model.proofs.laws.cleared_is_gone.Goals as goal

pub returns : goal.returns
returns g c = cleared_is_gone
