use Rattle.tlb_watch.proofs.Deciding.{watches-so}
use Rattle.tlb_watch.proofs.laws.watches_decide.Goals as goal

pub returns : goal.returns
returns c = λ o past addresses watches at kind. watches-so o past at kind (c.watched_decide.ensures o past at.hart at.address kind) addresses watches
