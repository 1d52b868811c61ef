use Rattle.std.proofs.Common.{length, sym, ap, ◌∙◌}
use Rattle.hart_mask.proofs.Changes.{length-ids}
use Rattle.hart_mask.proofs.hart_set.HartSet.len.Goals as goal

pub returns : goal.returns
returns c = c.from.ensures ∙ sym (length-ids c.self.inside.bits c.self.invariant) ∙ ap length c.self.view_is
