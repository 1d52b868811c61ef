use Rattle.any_tlb.proofs.Agree.{no_cache_is_asked}
use Rattle.any_tlb.proofs.agreement.no_cache_is_asked.Goals as goal

pub returns : goal.returns
returns c = no_cache_is_asked
