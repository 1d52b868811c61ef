use Rattle.std.proofs.Common.{◌≡◌, true, length, reverse, take}
use Rattle.board_core.specs.Opening.{opening_at}
use Rattle.board_core.specs.Replies.{IsLegal}
use Rattle.access_marks.specs.Marks.{AreMarked, AreWalksMarked}
use Rattle.access_marks.proofs.marking.marks_of.Given as goal

abbrev pub invariant-loop-event : goal.invariant-loop-event
invariant-loop-event l = record {
  followed : l.followed ≡ record {
    course = record { opening = opening_at l.config; past = reverse (take l.event-index l.events) };
    addresses = l.addresses.items;
    walks = l.walks;
  };
  legal : IsLegal (opening_at l.config) (reverse (take l.event-index l.events));
  marked : AreMarked (opening_at l.config) (reverse (take l.event-index l.events)) (reverse l.marks.items);
  walked : l.walks ≡ true → AreWalksMarked (opening_at l.config) (reverse (take l.event-index l.events)) (reverse l.marks.items);
  many : length l.marks.items ≡ length (take l.event-index l.events);
}
