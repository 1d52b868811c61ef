use Rattle.std.proofs.Common.{◌≡◌, map, take}
use Rattle.seeded_orders.specs.Choices.{choice_of}
use Rattle.seeded_orders.proofs.kept.choices.Given as goal

abbrev pub invariant-loop-event : goal.invariant-loop-event
invariant-loop-event l = l.found.items ≡ map choice_of (take l.event-index l.events)
