use Rattle.std.proofs.Common.{◌≡◌, ◌∙◌, ◌+◌, ◌∷◌, ℕ, List, [], length, get_or, sym, ap, subst, reverse, take, arith}
use Rattle.std.specs.Vec.{with_items}
use Rattle.std.proofs.lemmas.List.{get_or-replicate, length-replicate, reverse-append, take_more, with_items_is}
use Rattle.board_core.specs.History.{Event}
use Rattle.board_terms.specs.declared.config.Config.{Config}
use Rattle.guest_programs.specs.declared.found_end.Followed.TheVariants.{To}
use Rattle.guest_programs.specs.Places.{AllFollowed, IsFollowed}
use Rattle.guest_programs.proofs.found_end.found_after.Goals as goal

pub loop-event-init : goal.loop-event-init
loop-event-init g c =
    let guests = g.G.Guests.next c.args.guests.now in
    let rest = g.G.Guests.rest c.args.guests.now in
    let start = To c.nowhere.result in
    let same = c.in_ok-found.ensures in
    let long : length c.in_ok-found.found.items ≡ c.config.result.now.harts = ap length same ∙ length-replicate c.config.result.now.harts start in (
      long ∙ ap (λ (c : Config). c.harts) c.config.ensures.config,
      (λ h d below.
          let one : get_or c.in_ok-found.found.items h d ≡ start = ap (λ xs. get_or xs h d) same ∙ get_or-replicate c.config.result.now.harts h start d (omega arith) in
          subst (λ found. IsFollowed rest guests [] h found) (sym one) (c.nowhere.ensures, tt)),
    )

pub loop-event-preserved : goal.loop-event-preserved
loop-event-preserved g c =
    let guests = g.G.Guests.next c.args.guests.now in
    let rest = g.G.Guests.rest c.args.guests.now in
    let items : List Event = c.history-event-items.result.now in
    let i : ℕ = c.loop-event.event-index in
    let same : (with_items c.loop-event.found c.see.new.found).items ≡ c.see.new.found =
    with_items_is c.loop-event.found c.see.new.found (c.see.ensures.many ∙ c.deref_mut.ensures.len) in
    let past : reverse (take (i + 1) items) ≡ c.event-item.result ∷ reverse (take i items) =
    ap (λ (es : List Event). reverse es) (take_more items i c.event-item.result c.loop-event-test.true)
    ∙ reverse-append (take i items) (get_or items i c.event-item.result ∷ [])
    ∙ ap (λ (e : Event). e ∷ reverse (take i items)) (sym c.event-item.is) in (
      ap length same ∙ c.see.ensures.many ∙ ap length c.deref_mut.ensures.value ∙ c.loop-event.invariant.0,
      subst (λ founds. AllFollowed rest guests founds (reverse (take (i + 1) items))) (sym same)
          (subst (λ (seen : List Event). AllFollowed rest guests c.see.new.found seen) (sym past)
          (c.see.ensures.followed (reverse (take i items)) (subst (λ founds. AllFollowed rest guests founds (reverse (take i items))) (sym c.deref_mut.ensures.value) c.loop-event.invariant.1))),
    )
