use Rattle.std.proofs.Common.{◌≡◌, ◌≤◌, length, take, vec_capacity, vec_len}
use Rattle.board_machine.proofs.memory.Memory.try_copy.Given as goal

abbrev pub invariant-loop-h : goal.invariant-loop-h
invariant-loop-h l = record {
  same : l.caches.items ≡ take l.h l.self.caches.items;
  many : vec_len l.caches ≡ l.h;
  room : length l.self.caches.items ≤ vec_capacity l.caches;
}
