use Rattle.std.proofs.Common.{◌≡◌, replicate, vec_capacity, vec_len, None}
use Rattle.interrupts.proofs.timers.no_deadlines.Given as goal

abbrev pub invariant-loop : goal.invariant-loop
invariant-loop l =
    (l.deadlines.items ≡ replicate l.counter None)
    × (vec_len l.deadlines ≡ l.counter)
    × (vec_capacity l.deadlines ≡ l.harts)
