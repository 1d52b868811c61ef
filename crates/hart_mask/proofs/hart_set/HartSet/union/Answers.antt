use Rattle.std.proofs.Common.{arith}
use Rattle.hart_mask.proofs.Words.{ids-bit_or, or_of_128}
use Rattle.hart_mask.proofs.hart_set.HartSet.union.Goals as goal

pub invariant_of-result : goal.invariant_of-result
invariant_of-result c = grind (arith, or_of_128)

pub returns : goal.returns
returns c = rw (← c.self.view_is, ← c.other.view_is) (ids-bit_or c.self.inside.bits c.other.inside.bits)
