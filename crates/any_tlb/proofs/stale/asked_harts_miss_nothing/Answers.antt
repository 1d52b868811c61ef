use Rattle.any_tlb.proofs.Staleness.{asked_harts_miss_nothing}
use Rattle.any_tlb.proofs.stale.asked_harts_miss_nothing.Goals as goal

pub returns : goal.returns
returns c = asked_harts_miss_nothing
