use Rattle.std.proofs.Common.{List, subst, ◌∙◌}
use Rattle.std.specs.List.{Contains}
use Rattle.sv39.specs.Memory.{word_in}
use Rattle.tlb_watch.specs.Watched.{WatchedAddress}
use Rattle.tlb_watch.proofs.Tracking.{decided}
use Rattle.tlb_watch.proofs.tracker.Tracker.is_steady.Goals as goal

pub returns-in-Some : goal.returns-in-Some
returns-in-Some c = λ o past addresses tracks ram register.
    let w : WatchedAddress = c.in-Some.watch.now in
    let there : Contains c.args.self.now w = subst (λ (l : List WatchedAddress). Contains l w) (c.deref.ensures.value ∙ c.self.view_is) c.in-Some.ensures.0 in
    decided o past addresses c.args.self.now w c.args.at (word_in c.args.ram.now) c.args.register c.args.kind c.is_steady.result tracks there c.in-Some.ensures.1 ram register
    (c.watched_decide.ensures o past c.args.at.hart c.args.at.address c.args.kind) c.is_steady.ensures.decides
