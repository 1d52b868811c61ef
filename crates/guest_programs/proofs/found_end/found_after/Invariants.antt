use Rattle.std.proofs.Common.{◌≡◌, length, take, reverse}
use Rattle.guest_programs.specs.Places.{AllFollowed}
use Rattle.guest_programs.proofs.found_end.found_after.Given as goal

abbrev pub invariant-loop-event : goal.invariant-loop-event
invariant-loop-event g l =
    (length l.found.items ≡ l.board.opening.config.harts)
    × AllFollowed (g.G.Guests.rest l.guests) (g.G.Guests.next l.guests) l.found.items (reverse (take l.event-index l.event-items))
