use Rattle.tlb_watch.proofs.Quieting.{tracked-quiet}
use Rattle.tlb_watch.proofs.laws.trackers_outlast_quiet_events.Goals as goal

pub returns : goal.returns
returns c = tracked-quiet
