use Rattle.tlb_model.proofs.Living.{keeps_what_lives}
use Rattle.tlb_model.proofs.laws.caches_keep_what_lives.Goals as goal

pub returns : goal.returns
returns g c = keeps_what_lives
