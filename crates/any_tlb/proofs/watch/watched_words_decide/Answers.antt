use Rattle.any_tlb.proofs.WatchingWords.{watched_words_decide}
use Rattle.any_tlb.proofs.watch.watched_words_decide.Goals as goal

pub returns : goal.returns
returns c = watched_words_decide
