use Rattle.std.proofs.Common.{◌≡◌, length}
use Rattle.hart_mask.specs.Ids.{IsIdSet}
use Rattle.board_lock.specs.Inside.Rests.{less}
use Rattle.board_lock.proofs.rests.less.Given as goal

abbrev pub invariant-loop-h : goal.invariant-loop-h
invariant-loop-h l = IsIdSet l.kept × (less l.kept l.left ≡ less l.fn.harts l.fn.others)

abbrev pub decreases-loop-h : goal.decreases-loop-h
decreases-loop-h l = length l.left
