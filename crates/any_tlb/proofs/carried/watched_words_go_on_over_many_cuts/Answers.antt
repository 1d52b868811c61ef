use Rattle.any_tlb.proofs.Carrying.{watched_words_go_on_over_many_cuts}
use Rattle.any_tlb.proofs.carried.watched_words_go_on_over_many_cuts.Goals as goal

pub returns : goal.returns
returns c = watched_words_go_on_over_many_cuts
