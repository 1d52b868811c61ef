use Rattle.hart_mask.specs.Bits.{is_set}
use Rattle.hart_mask.proofs.Sets.{IsIdSet-ids_where}
use Rattle.hart_mask.proofs.hart_set.HartSet.iter.Goals as goal

pub returns-clause-ascending : goal.returns-clause-ascending
returns-clause-ascending c = rw (← c.self.view_is) (IsIdSet-ids_where (is_set c.self.inside.bits))
