use Rattle.any_tlb.proofs.WatchingWalks.{results_decide_firm}
use Rattle.any_tlb.proofs.watch.results_decide_firm.Goals as goal

pub returns : goal.returns
returns c = results_decide_firm
