use Rattle.any_tlb.proofs.Mixing.{lenient_access_is_walk_or_fault}
use Rattle.any_tlb.proofs.firm.lenient_access_is_walk_or_fault.Goals as goal

pub returns : goal.returns
returns c = lenient_access_is_walk_or_fault
