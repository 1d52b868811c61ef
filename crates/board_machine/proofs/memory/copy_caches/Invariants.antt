use Rattle.std.proofs.Common.{◌≡◌, length}
use Rattle.fence_queue.proofs.Copies.{AreCopied}
use Rattle.board_machine.proofs.memory.copy_caches.Given as goal

abbrev pub invariant-loop-h : goal.invariant-loop-h
invariant-loop-h l = record {
  long : length l.caches.items ≡ length l.from;
  copied : AreCopied l.caches.items l.from l.h;
}
