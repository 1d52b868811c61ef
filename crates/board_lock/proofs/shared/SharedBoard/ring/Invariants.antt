use Rattle.std.proofs.Common.{◌≡◌, ℕ, ◌<◌, ◌++◌, true, length, map}
use Rattle.hart_mask.specs.Ids.{has}
use Rattle.board_terms.specs.declared.op.Actor.TheVariants.{Hart}
use Rattle.board_lock.proofs.shared.SharedBoard.ring.Given as goal

abbrev pub invariant-loop-h : goal.invariant-loop-h
invariant-loop-h g l =
    ((h : ℕ) → has l.left h ≡ true → h < g.K.Room.opening.config.harts)
    × (l.rung ++ map Hart l.left ≡ map Hart l.woken.harts)

abbrev pub decreases-loop-h : goal.decreases-loop-h
decreases-loop-h g l = length l.left
