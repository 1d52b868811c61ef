use Rattle.std.specs.Prelude.{ℕ, ◌<◌}
use Rattle.guest_programs.specs.Ends.{IsQuiet}
use Rattle.guest_programs.proofs.found_end.first_unquiet.Given as goal

abbrev pub invariant-loop-h : goal.invariant-loop-h
invariant-loop-h g l = (k : ℕ) → k < l.h → IsQuiet l.board.opening l.board.past (g.G.Guests.next l.guests) k
