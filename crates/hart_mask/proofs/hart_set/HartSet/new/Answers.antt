use Rattle.hart_mask.proofs.Changes.{no_ids}
use Rattle.hart_mask.proofs.hart_set.HartSet.new.Goals as goal

pub returns : goal.returns
returns c = no_ids
