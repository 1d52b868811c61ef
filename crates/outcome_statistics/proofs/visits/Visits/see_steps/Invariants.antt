use Rattle.std.specs.Prelude.{reverse, take}
use Rattle.outcome_statistics.specs.Visits.{Calls, Enters, IsWith}
use Rattle.outcome_statistics.specs.Inside.Guests.{AreGuests}
use Rattle.outcome_statistics.proofs.visits.Visits.see_steps.Given as goal

abbrev pub invariant-loop-event : goal.invariant-loop-event
invariant-loop-event l =
    AreGuests l.harts (reverse (take l.event-index l.events)) l.guests.items
    × IsWith (Enters (reverse (take l.event-index l.events))) (Calls l.harts (reverse (take l.event-index l.events))) l.initial.self l.self
