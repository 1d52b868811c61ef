use Rattle.hart_access.proofs.Used.{word_filled}
use Rattle.hart_access.proofs.laws.word_is_filled.Goals as goal

pub returns : goal.returns
returns c = λ memory satp tlb words va access fetched. word_filled memory satp tlb words va access fetched
