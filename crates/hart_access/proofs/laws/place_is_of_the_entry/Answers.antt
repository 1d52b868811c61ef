use Rattle.hart_access.proofs.Used.{place_of_used}
use Rattle.hart_access.proofs.laws.place_is_of_the_entry.Goals as goal

pub returns : goal.returns
returns c = λ memory satp tlb va access pa e. place_of_used memory _ va _ pa e
