use Rattle.std.proofs.Common.{◌≡◌, take, vec_capacity, vec_len}
use Rattle.interrupts.proofs.timers.Timers.try_copy.Given as goal

abbrev pub invariant-loop-deadline : goal.invariant-loop-deadline
invariant-loop-deadline l =
    (l.deadlines.items ≡ take l.deadline-index l.self-inside.deadlines.items)
    × (vec_len l.deadlines ≡ l.deadline-index)
    × (vec_capacity l.deadlines ≡ vec_len l.self-inside.deadlines)
