use Rattle.hart_mask.proofs.Words.{ids-bit_and}
use Rattle.hart_mask.proofs.hart_set.HartSet.intersection.Goals as goal

pub returns : goal.returns
returns c = rw (← c.self.view_is, ← c.other.view_is) (ids-bit_and c.self.inside.bits c.other.inside.bits)
