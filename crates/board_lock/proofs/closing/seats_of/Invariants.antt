use Rattle.std.proofs.Common.{◌≡◌, take}
use Rattle.board_lock.specs.Seats.{seats_of}
use Rattle.board_lock.proofs.closing.seats_of.Given as goal

abbrev pub invariant-loop-seat : goal.invariant-loop-seat
invariant-loop-seat g l = l.many ≡ seats_of l.actor (take l.seat-index l.seats)
