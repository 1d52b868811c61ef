use Rattle.any_tlb.proofs.Staleness.{missed_is_stale}
use Rattle.any_tlb.proofs.stale.missed_is_stale.Goals as goal

pub returns : goal.returns
returns c = missed_is_stale
