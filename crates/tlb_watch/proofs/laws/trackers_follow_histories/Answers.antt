use Rattle.tlb_watch.proofs.Tracking.{tracked-more}
use Rattle.tlb_watch.proofs.laws.trackers_follow_histories.Goals as goal

pub returns : goal.returns
returns c = tracked-more
