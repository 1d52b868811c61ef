use Rattle.any_tlb.proofs.FullFences.{fully_fenced_is_firm}
use Rattle.any_tlb.proofs.fenced.fully_fenced_is_firm.Goals as goal

pub returns : goal.returns
returns c = fully_fenced_is_firm
