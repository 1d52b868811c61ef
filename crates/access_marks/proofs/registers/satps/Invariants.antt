use Rattle.std.proofs.Common.{◌≡◌, ℕ, ◌<◌, length}
use Rattle.board_core.specs.Memory.{satp}
use Rattle.tlb_watch.specs.Tracked.{satp_in}
use Rattle.access_marks.proofs.registers.satps.Given as goal

abbrev pub invariant-loop-hart : goal.invariant-loop-hart
invariant-loop-hart l =
    (length l.satps.items ≡ l.hart) × ((h : ℕ) → h < l.hart → satp_in l.satps.items h ≡ satp l.board.opening l.board.past h)
