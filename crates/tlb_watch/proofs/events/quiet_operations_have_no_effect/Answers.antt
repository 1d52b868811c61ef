use Rattle.tlb_watch.proofs.QuietOps.{quiet}
use Rattle.tlb_watch.proofs.events.quiet_operations_have_no_effect.Goals as goal

pub returns : goal.returns
returns c = λ o event past is h. quiet o past event is h
