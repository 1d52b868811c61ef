use Rattle.std.proofs.Common.{◌≡◌, ℕ, List, [], ◌∷◌, ◌++◌, subst, sym, ap, ◌∙◌, append_assoc}
use Rattle.std.specs.List.{AllZip}
use Rattle.std.specs.Vec.Iter.{into_iter_items}
use Rattle.std.proofs.lemmas.List.{map-append}
use Rattle.std.proofs.lemmas.List.Elements.{AllZip-push}
use Rattle.sv39.specs.Memory.{word_in}
use Rattle.tlb_watch.specs.declared.hart_address.HartAddress.{HartAddress}
use Rattle.tlb_watch.specs.Effects.{effect_on}
use Rattle.tlb_watch.specs.Kept.{kept_after}
use Rattle.tlb_watch.specs.Tracked.{Follows, satp_in}
use Rattle.tlb_watch.specs.Watched.{WatchTheSame, WatchedAddress, after_event}
use Rattle.tlb_watch.proofs.tracker.Tracker.happened.Goals as goal

pub loop-watch-preserved : goal.loop-watch-preserved
loop-watch-preserved c =
    let at = c.loop-watch in
    let w : WatchedAddress = c.in-Some.watch in
    let after : WatchedAddress = c.happened.new.self in
    let satps : List ℕ = c.args.satps.now in
    let memory = word_in c.args.ram.now in
    let rest = into_iter_items c.next.new.self in
    let Followed = Follows c.args.effect memory satps in
    let steps : into_iter_items at.watch-iterator ≡ w ∷ rest = c.in-Some.ensures.steps.0 in
    let value : c.satp_in-satp.result ≡ satp_in satps w.at.hart = c.satp_in-satp.ensures ∙ ap (λ (a : HartAddress). satp_in satps a.hart) c.at.ensures in
    let follows : Followed w after = subst (λ (n : ℕ). WatchTheSame after (after_event (effect_on c.args.effect w.at.hart) memory n w)) value c.in_ok-happened.ensures.after in
    let zipped : AllZip Followed (at.yielded ++ w ∷ []) (at.after.items ++ after ∷ []) = AllZip-push Followed at.yielded at.after.items w after at.invariant.1 follows in
    let keeps : WatchedAddress → WatchedAddress = λ w. kept_after (effect_on c.args.effect w.at.hart) memory (satp_in satps w.at.hart) w in
    let kept : after ≡ keeps w = c.in_ok-happened.ensures.kept ∙ ap (λ (n : ℕ). kept_after (effect_on c.args.effect w.at.hart) memory n w) value in (
      append_assoc at.yielded (w ∷ []) rest ∙ rw (← steps) at.invariant.0,
      subst (λ (l : List WatchedAddress). AllZip Followed (at.yielded ++ w ∷ []) l) (sym c.in_ok-push.ensures.items) zipped,
      c.in_ok-push.ensures.items ∙ (λ i. at.invariant.2 i ++ kept i ∷ []) ∙ sym (map-append keeps at.yielded (w ∷ [])),
    )
