use Rattle.std.specs.Prelude.{◌≡◌}
use mathlib.Core.List.{IsPrefix}
use Rattle.board_lock.specs.Seats.{seeing}
use Rattle.board_lock.proofs.shared.SharedBoard.rest_for.Given as goal

abbrev pub invariant-loop : goal.invariant-loop
invariant-loop g l = (l.seat ≡ seeing l.fn.seat l.seat.saw) × IsPrefix l.fn.seat.saw l.seat.saw
