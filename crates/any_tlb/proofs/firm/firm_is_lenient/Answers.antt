use Rattle.any_tlb.proofs.Mixing.{firm_is_lenient}
use Rattle.any_tlb.proofs.firm.firm_is_lenient.Goals as goal

pub returns : goal.returns
returns c = firm_is_lenient
