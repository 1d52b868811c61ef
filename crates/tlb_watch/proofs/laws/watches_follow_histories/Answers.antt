use Rattle.std.proofs.Common.{refl}
use Rattle.tlb_watch.proofs.laws.watches_follow_histories.Goals as goal

pub returns-clause-begins : goal.returns-clause-begins
returns-clause-begins c = λ o at. refl

pub returns-clause-goes_on : goal.returns-clause-goes_on
returns-clause-goes_on c = λ o event past at. refl
