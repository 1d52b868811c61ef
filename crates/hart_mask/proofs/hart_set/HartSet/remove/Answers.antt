use Rattle.std.proofs.Common.{ap, ◌∙◌}
use Rattle.hart_mask.specs.Ids.{without_id}
use Rattle.hart_mask.proofs.Changes.{ids-bit_cleared}
use Rattle.hart_mask.proofs.hart_set.HartSet.remove.Goals as goal

pub returns : goal.returns
returns c = ids-bit_cleared c.self.inside.bits c.args.id c.requires ∙ ap (λ ids. without_id ids c.args.id) c.self.view_is
