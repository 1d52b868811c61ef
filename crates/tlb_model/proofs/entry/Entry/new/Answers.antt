use Rattle.std.proofs.Common.{ap}
use Rattle.tlb_model.specs.Inside.KeptRights.{rights_of}
use Rattle.tlb_model.proofs.KeptRights.{leaf_again}
use Rattle.tlb_model.proofs.entry.Entry.new.Goals as goal

pub invariant_of-result : goal.invariant_of-result
invariant_of-result c = rw c.rights_of.ensures (ap rights_of (leaf_again c.args.leaf))

pub returns : goal.returns
returns c = rw c.rights_of.ensures (λ i. record { leaf = leaf_again c.args.leaf i; asid = c.args.asid })
