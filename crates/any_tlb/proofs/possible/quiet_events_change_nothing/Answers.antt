use Rattle.any_tlb.proofs.Quiet.{quiet_events_change_nothing}
use Rattle.any_tlb.proofs.possible.quiet_events_change_nothing.Goals as goal

pub returns : goal.returns
returns c = quiet_events_change_nothing
