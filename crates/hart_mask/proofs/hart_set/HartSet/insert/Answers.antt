use Rattle.std.proofs.Common.{ap, ◌∙◌}
use Rattle.hart_mask.specs.Ids.{with_id}
use Rattle.hart_mask.proofs.Changes.{bit_set-lt, ids-bit_set}
use Rattle.hart_mask.proofs.hart_set.HartSet.insert.Goals as goal

pub invariant_of-self : goal.invariant_of-self
invariant_of-self c = bit_set-lt c.self.inside.bits c.args.id c.self.invariant

pub returns : goal.returns
returns c = ids-bit_set c.self.inside.bits c.args.id c.requires ∙ ap (λ ids. with_id ids c.args.id) c.self.view_is
