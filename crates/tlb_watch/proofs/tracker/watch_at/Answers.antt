use Rattle.tlb_watch.proofs.Tracking.{nowhere}
use Rattle.tlb_watch.proofs.tracker.watch_at.Goals as goal

pub returns : goal.returns
returns c = nowhere c.args.watches.now c.args.at c.loop-watch.watch-index c.loop-watch-test.false c.loop-watch.invariant
