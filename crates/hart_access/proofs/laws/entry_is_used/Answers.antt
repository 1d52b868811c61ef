use Rattle.hart_access.proofs.Used.{is_used}
use Rattle.hart_access.proofs.laws.entry_is_used.Goals as goal

pub returns : goal.returns
returns c = λ memory satp tlb va access entry. is_used memory satp tlb va access entry
