use Rattle.any_tlb.proofs.Staleness.{stale_is_unsteady}
use Rattle.any_tlb.proofs.stale.stale_is_unsteady.Goals as goal

pub returns : goal.returns
returns c = stale_is_unsteady
