use Rattle.std.proofs.Common.{◌≡◌, ◌++◌, drop}
use Rattle.std.specs.List.{AllByRecursion}
use Rattle.sbiboard.specs.Inside.Fitting.{EventFits}
use Rattle.sbiboard.specs.Threaded.{events_text}
use Rattle.script_tasks.proofs.Replayed.{HasWritten}
use Rattle.sbiboard.proofs.threaded.print_events.Given as goal

abbrev pub invariant-loop-event : goal.invariant-loop-event
invariant-loop-event g l =
    HasWritten (g.W.Sink.written l.initial.writer) (g.W.Sink.written l.writer) (l.page ++ events_text (drop l.event-index l.events)) (events_text l.events)
    × (g.W.Sink.failures l.writer ≡ g.W.Sink.failures l.initial.writer)
    × (AllByRecursion EventFits (drop l.event-index l.events) → AllByRecursion EventFits l.events)
