use Rattle.board_lock.proofs.Places.{later}
use Rattle.board_lock.proofs.records.later_calls_are_later.Goals as goal

pub returns : goal.returns
returns c = λ first a es k l p q e f. later first a es k l (p, e) (q, f)
