use Rattle.hart_access.proofs.Used.{is_filled}
use Rattle.hart_access.proofs.laws.entry_is_filled.Goals as goal

pub returns : goal.returns
returns c = λ memory satp tlb va access entry. is_filled memory satp tlb va access entry
