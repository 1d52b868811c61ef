use Rattle.std.proofs.Common.{◌≡◌, ℕ, ◌<◌}
use Rattle.board_terms.specs.declared.op.Actor.TheVariants.{Hart}
use Rattle.board_lock.specs.Seats.{seats_of}
use Rattle.board_lock.proofs.closing.is_one_each.Given as goal

abbrev pub invariant-loop-h : goal.invariant-loop-h
invariant-loop-h g l = (k : ℕ) → k < l.h → seats_of (Hart k) l.seats ≡ 1
