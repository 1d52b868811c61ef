use Rattle.tlb_watch.proofs.Keeping.{kept-tracks}
use Rattle.tlb_watch.proofs.laws.kept_watches_are_watches.Goals as goal

pub returns : goal.returns
returns c = λ o event past addresses watches does leaves satps effects is have. kept-tracks o event past does leaves satps effects is have addresses watches
