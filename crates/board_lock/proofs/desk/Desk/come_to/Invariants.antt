use Rattle.std.proofs.Common.{◌≡◌, ℕ, ◌<◌, true, length}
use Rattle.hart_mask.specs.Ids.{has}
use Rattle.board_lock.specs.Inside.Waking.{comes_to}
use Rattle.board_lock.proofs.Sifting.{Sifts}
use Rattle.board_lock.proofs.desk.Desk.come_to.Given as goal

abbrev pub invariant-loop-h : goal.invariant-loop-h
invariant-loop-h g l =
    ((h : ℕ) → has l.left h ≡ true → h < g.K.Room.opening.config.harts)
    × Sifts l.fn.harts (comes_to l.self) l.come l.left

abbrev pub decreases-loop-h : goal.decreases-loop-h
decreases-loop-h g l = length l.left
