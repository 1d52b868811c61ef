use Rattle.any_tlb.proofs.Agree.{possible_depends_on_no_cache}
use Rattle.any_tlb.proofs.agreement.possible_depends_on_no_cache.Goals as goal

pub returns : goal.returns
returns c = possible_depends_on_no_cache
