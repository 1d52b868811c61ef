use Rattle.std.proofs.Common.{refl, sym, subst}
use Rattle.std.specs.List.{All}
use Rattle.std.proofs.lemmas.List.{take_all}
use Rattle.access_marks.specs.Inside.Accessed.{IsPresent, IsWatched, address_of}
use Rattle.access_marks.proofs.Accessing.{not-all-present, watched-more}
use Rattle.access_marks.proofs.accessed.accessed.Goals as goal

pub returns-then-not-is_present : goal.returns-then-not-is_present
returns-then-not-is_present c =
    not-all-present c.args.harts c.args.events.now c.loop-event.event-index c.event-item.result c.loop-event-test.true c.event-item.is
    (λ there. let yes = c.is_present.ensures.1 (subst (IsPresent c.args.harts) (sym c.actor.ensures) there) in let no = c.if-not-is_present.true in absurd cc)

pub loop-event-preserved : goal.loop-event-preserved
loop-event-preserved c =
    watched-more c.args.harts c.args.events.now c.loop-event.event-index c.event-item.result c.loop-event-test.true c.event-item.is
    (subst (IsPresent c.args.harts) c.actor.ensures (c.is_present.ensures.0 c.if-not-is_present.false))
    (address_of c.event-item.result) c.loop-event.addresses.items c.put_address.new.addresses.items refl c.in_ok-put_address.ensures c.loop-event.invariant

pub returns : goal.returns
returns c = (
  c.loop-event.invariant.0,
  subst (All (IsWatched c.args.harts c.loop-event.addresses.items)) (take_all c.loop-event.event-index c.args.events.now c.loop-event-test.false) c.loop-event.invariant.1,
)
