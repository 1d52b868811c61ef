use Rattle.std.proofs.Common.{sym, subst}
use Rattle.sv39.specs.Memory.{word_in}
use Rattle.tlb_watch.specs.Effects.{effect_on}
use Rattle.tlb_watch.specs.Watched.{WatchTheSame, WatchedAddress, after_event}
use Rattle.tlb_watch.proofs.Giving.{if-ok}
use Rattle.tlb_watch.proofs.Keeping.{kept-like}
use Rattle.tlb_watch.proofs.address.AddressWatch.happened.Goals as goal

pub returns-clause-after : goal.returns-clause-after
returns-clause-after c =
    let w : WatchedAddress = c.args.self.now in
    let done = effect_on c.args.effect w.at.hart in
    let memory = word_in c.args.ram.now in
    if-ok c.keep.result _ _
    (λ ok is. subst (λ (x : WatchedAddress). WatchTheSame x (after_event done memory c.args.satp w)) (sym is) (kept-like done memory c.args.satp w)) c.keep.ensures
