use Rattle.tlb_model.proofs.Meeting.{common}
use Rattle.tlb_model.proofs.laws.common_address.Goals as goal

pub returns : goal.returns
returns c = common
