use Rattle.std.proofs.Common.{◌≡◌, reverse, take}
use Rattle.board_core.specs.Opening.{opening_at}
use Rattle.access_marks.specs.Inside.Missing.{IsWatch}
use Rattle.access_marks.proofs.missing.watch_after.Given as goal

abbrev pub invariant-loop-event : goal.invariant-loop-event
invariant-loop-event l = record {
  board : l.board ≡ record { opening = opening_at l.config; past = reverse (take l.event-index l.events) };
  of : l.watch.of ≡ l.fn.of;
  watch : IsWatch (opening_at l.config) (reverse (take l.event-index l.events)) l.watch;
}
