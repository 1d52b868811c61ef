use Rattle.std.proofs.Common.{length, ap, ◌∙◌, nat_eq}
use Rattle.hart_mask.proofs.Changes.{eqb-ids}
use Rattle.hart_mask.proofs.hart_set.HartSet.is_empty.Goals as goal

pub returns : goal.returns
returns c = eqb-ids c.self.inside.bits c.self.invariant ∙ ap (λ ids. nat_eq (length ids) 0) c.self.view_is
