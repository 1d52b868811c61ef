use Rattle.hart_mask.proofs.Changes.{pointwise-ids}
use Rattle.hart_mask.proofs.hart_set.HartSetPartialEq.eq.Goals as goal

pub returns : goal.returns
returns c = rw (← c.self.view_is, ← c.other.view_is)
    (pointwise-ids c.self.inside.bits c.other.inside.bits c.self.invariant c.other.invariant)
