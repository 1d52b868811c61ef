use Rattle.std.proofs.Common.{◌≡◌, true, [], List, length, reverse, take, refl, ap, subst, sym, ◌∙◌}
use Rattle.std.proofs.lemmas.List.{take_all}
use Rattle.board_core.specs.History.{Event, access_of}
use Rattle.board_core.specs.Opening.{opening_at}
use Rattle.board_core.specs.Replies.{IsLegal}
use Rattle.tlb_watch.specs.declared.hart_address.HartAddress.{HartAddress}
use Rattle.access_marks.specs.Inside.Following.{Following}
use Rattle.access_marks.specs.Marks.{AreMarked, AreWalksMarked, IsMarkedStep, IsWalkMarkedStep}
use Rattle.access_marks.proofs.Recording.{all-present, next-at, not-next, one-longer, still-legal, still-marked, still-walked, watched-at, when-none, when-some}
use Rattle.access_marks.proofs.marking.marks_of.Goals as goal

-- some actor of the record isn't there
pub returns-in_default-clause-marks : goal.returns-in_default-clause-marks
returns-in_default-clause-marks c = λ legal. when-none c.in_ok-addresses.field-0 _ _ c.in_default.is c.in_ok-addresses.ensures (all-present (opening_at c.args.config.now) c.args.events.now legal)

-- before the first event
pub loop-event-init : goal.loop-event-init
loop-event-init c = record { followed = c.in_ok-followed.ensures.made ∙ ap (λ (addresses : List HartAddress). let f : Following = record { course = record { opening = opening_at c.args.config.now; past = [] }; addresses = addresses; walks = c.args.walks } in f) c.deref.ensures.value; legal = c.in_ok-followed.ensures.legal; marked = rw c.in_ok-marks.ensures.items tt; walked = λ asked. tt; many = rw c.in_ok-marks.ensures.items refl }

-- the board is at the event's place
pub marks-requires : goal.marks-requires
marks-requires c = record {
  first = subst (λ (f : Following). f.course.opening ≡ opening_at f.course.opening.config) (sym c.loop-event.invariant.followed) refl;
  watched = watched-at (opening_at c.args.config.now) c.args.events.now c.loop-event.event-index c.event-item.result c.in-Some.addresses.items c.args.walks c.loop-event.followed c.loop-event-test.true c.event-item.is
      c.loop-event.invariant.followed (when-some c.in_ok-addresses.field-0 c.in-Some.addresses _ _ c.in-Some.is c.in_ok-addresses.ensures).1;
}

pub returns-in_default-2-clause-marks : goal.returns-in_default-2-clause-marks
returns-in_default-2-clause-marks c =
    not-next (opening_at c.args.config.now) c.args.events.now c.loop-event.event-index c.event-item.result c.in-Some.addresses.items c.args.walks c.marks.new.self c.loop-event-test.true c.event-item.is
    (c.in_ok-found.ensures.same ∙ c.loop-event.invariant.followed) (when-none c.in_ok-after.field-0 _ _ c.in_default-2.is c.in_ok-after.ensures)

pub loop-event-preserved : goal.loop-event-preserved
loop-event-preserved c =
    let o = opening_at c.args.config.now in
    let events = c.args.events.now in
    let i = c.loop-event.event-index in
    let event = c.event-item.result in
    let addresses = c.in-Some.addresses.items in
    let walks = c.args.walks in
    let f = c.marks.new.self in
    let g = c.in-Some-2.after in
    let inside = c.loop-event-test.true in
    let is = c.event-item.is in
    let same = c.in_ok-found.ensures.same in
    let here = same ∙ c.loop-event.invariant.followed in
    let taken = when-some c.in_ok-after.field-0 g _ _ c.in-Some-2.is c.in_ok-after.ensures in
    let next = taken.0 in
    let went = taken.1 in
    let marked = subst (λ (f : Following). IsMarkedStep f.course.opening f.course.past event event.actor (access_of event.op) c.in_ok-found.found) (sym same) c.in_ok-found.ensures.marked in
    let walked : walks ≡ true → IsWalkMarkedStep f.course.opening f.course.past event.actor (access_of event.op) c.in_ok-found.found = λ asked.
    subst (λ (f : Following). f.walks ≡ true → IsWalkMarkedStep f.course.opening f.course.past event.actor (access_of event.op) c.in_ok-found.found) (sym same) c.in_ok-found.ensures.walks
    (ap (λ (f : Following). f.walks) here ∙ asked) in
    record {
      followed = next-at o events i event addresses walks f inside is here g next went;
      legal = still-legal o events i event addresses walks f inside is here g next went c.loop-event.invariant.legal;
      marked = rw c.in_ok-push.ensures.items (still-marked o events i event addresses walks f inside is here g next went c.loop-event.marks.items c.in_ok-found.found marked c.loop-event.invariant.marked);
      walked = λ asked. rw c.in_ok-push.ensures.items (still-walked o events i event addresses walks f inside is here g next went c.loop-event.marks.items c.in_ok-found.found (walked asked) (c.loop-event.invariant.walked asked));
      many = rw c.in_ok-push.ensures.items (one-longer events i event inside is c.loop-event.marks.items c.in_ok-found.found c.loop-event.invariant.many);
    }

pub returns-clause-marks : goal.returns-clause-marks
returns-clause-marks c =
    let o = opening_at c.args.config.now in
    let all : take c.loop-event.event-index c.args.events.now ≡ c.args.events.now = take_all c.loop-event.event-index c.args.events.now c.loop-event-test.false in (
      subst (λ (events : List Event). IsLegal o (reverse events)) all c.loop-event.invariant.legal,
      subst (λ (events : List Event). AreMarked o (reverse events) (reverse c.loop-event.marks.items)) all c.loop-event.invariant.marked,
    )

pub returns-clause-walks : goal.returns-clause-walks
returns-clause-walks c = λ asked.
    let o = opening_at c.args.config.now in
    let all : take c.loop-event.event-index c.args.events.now ≡ c.args.events.now = take_all c.loop-event.event-index c.args.events.now c.loop-event-test.false in
    subst (λ (events : List Event). AreWalksMarked o (reverse events) (reverse c.loop-event.marks.items)) all (c.loop-event.invariant.walked asked)

pub returns-clause-length : goal.returns-clause-length
returns-clause-length c = c.loop-event.invariant.many ∙ ap length (take_all c.loop-event.event-index c.args.events.now c.loop-event-test.false)
