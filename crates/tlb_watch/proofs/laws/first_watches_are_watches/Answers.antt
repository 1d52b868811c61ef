use Rattle.tlb_watch.proofs.Tracking.{tracked-first}
use Rattle.tlb_watch.proofs.laws.first_watches_are_watches.Goals as goal

pub returns : goal.returns
returns c = tracked-first
