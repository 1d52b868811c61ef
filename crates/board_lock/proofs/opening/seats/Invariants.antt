use Rattle.std.proofs.Common.{◌≡◌, ◌+◌, [], map}
use Rattle.std.specs.List.{range_with_len}
use Rattle.board_terms.specs.declared.op.Actor.TheVariants.{Hart}
use Rattle.board_lock.specs.Seats.{sitting}
use Rattle.board_lock.proofs.opening.seats.Given as goal

abbrev pub invariant-loop-h : goal.invariant-loop-h
invariant-loop-h g l =
    (l.seats.items ≡ map (λ k. sitting (Hart k) 0 [] []) (range_with_len 0 l.h))
    × (l.left.parts + l.h ≡ l.harts + 1) × (l.left.amount ≡ 0) × (l.log ≡ l.fn.log)
