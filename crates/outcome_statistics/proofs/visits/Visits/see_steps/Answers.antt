use Rattle.std.proofs.Common.{◌≡◌, ◌+◌, ◌∙◌, ℕ, ap, sym, subst, reverse, take, arith}
use Rattle.std.specs.Prelude.{◌∷◌, [], Some}
use Rattle.std.specs.Vec.{with_items}
use Rattle.std.proofs.lemmas.List.{with_items_is}
use Rattle.board_core.specs.Course.{is_hart}
use Rattle.outcome_statistics.specs.Visits.{Calls, Enters, IsCallAt, IsWith, entry_at, spot_at}
use Rattle.outcome_statistics.specs.Inside.Guests.{AreGuests}
use Rattle.outcome_statistics.proofs.Visiting.{guest-moves, guests-none, past-all, past-next, with-next, with-nothing}
use Rattle.outcome_statistics.proofs.visits.Visits.see_steps.Goals as goal

pub loop-event-init : goal.loop-event-init
loop-event-init c = (guests-none c.args.harts c.in_ok-guests.guests.items c.in_ok-guests.ensures, with-nothing (Enters []) (Calls c.args.harts []) c.args.self.now (λ addr never. never) (λ spot fails never. never))

pub loop-event-preserved : goal.loop-event-preserved
loop-event-preserved c =
    let events = c.args.events.now in
    let i : ℕ = c.loop-event.event-index in
    let e = c.event-item.result in
    let past = reverse (take i events) in
    let same : (with_items c.loop-event.guests c.put_guest.new.guests).items ≡ c.put_guest.new.guests =
    with_items_is c.loop-event.guests c.put_guest.new.guests (c.put_guest.ensures.many ∙ c.deref_mut.ensures.len) in
    let here : c.guest_of.result ≡ spot_at c.args.harts past e.actor =
    c.guest_of.ensures c.args.harts past (subst (AreGuests c.args.harts past) (sym c.deref.ensures.value) c.loop-event.invariant.0) ∙ ap (spot_at c.args.harts past) c.actor.ensures in
    let on : e ∷ past ≡ reverse (take (i + 1) events) = past-next events i e c.loop-event-test.true c.event-item.is in
    let moved = c.put_guest.ensures.at c.args.harts past e (sym c.actor-in-loop-event.ensures) (subst (AreGuests c.args.harts past) (sym c.deref_mut.ensures.value) c.loop-event.invariant.0)
    (λ h below mine.
    let mine_too = ap (is_hart h) (sym c.actor-in-loop-event.ensures) ∙ mine in
    c.in_ok-next.ensures.next past h mine_too (guest-moves c.args.harts past e.actor c.guest_of.result here h below mine_too)) in
    let met = subst (λ g. IsWith (λ addr. entry_at e.reply ≡ Some addr) (IsCallAt g e) c.loop-event.self c.see_step.new.self) here c.in_ok-next.ensures.seen in (
      subst (λ xs. AreGuests c.args.harts xs (with_items c.loop-event.guests c.put_guest.new.guests).items) on (subst (AreGuests c.args.harts (e ∷ past)) (sym same) moved),
      subst (λ xs. IsWith (Enters xs) (Calls c.args.harts xs) c.args.self.now c.see_step.new.self) on
          (with-next c.args.harts past e c.args.self.now c.loop-event.self c.see_step.new.self c.loop-event.invariant.1 met),
    )

pub returns : goal.returns
returns c =
    let over = c.loop-event-test.false in
    subst (λ xs. IsWith (Enters xs) (Calls c.args.harts xs) c.args.self.now c.loop-event.self) (past-all c.args.events.now c.loop-event.event-index (omega arith)) c.loop-event.invariant.1
