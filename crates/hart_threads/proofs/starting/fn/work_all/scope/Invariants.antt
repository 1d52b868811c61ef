use Rattle.std.proofs.Common.{◌≡◌, ◌++◌, length, map}
use Rattle.std.specs.Vec.Iter.{into_iter_items, into_iter_len}
use Rattle.hart_threads.proofs.starting.fn.work_all.scope.Given as goal

abbrev pub invariant-loop-seat : goal.invariant-loop-seat
invariant-loop-seat g l =
    (l.yielded ++ into_iter_items l.seat-iterator ≡ into_iter_items l.initial.seat-iterator)
    × (into_iter_len l.seat-iterator ≡ length (into_iter_items l.seat-iterator))
    × (map (λ thread. thread.promise.0) l.threads.items ≡ map (λ seat. seat.actor) l.yielded)
