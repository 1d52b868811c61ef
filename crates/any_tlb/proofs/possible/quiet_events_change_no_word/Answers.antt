use Rattle.any_tlb.proofs.Quiet.{quiet_events_change_no_word}
use Rattle.any_tlb.proofs.possible.quiet_events_change_no_word.Goals as goal

pub returns : goal.returns
returns c = quiet_events_change_no_word
