use Rattle.std.proofs.Common.{◌≡◌, ◌+◌, ◌++◌, replicate, vec_capacity, vec_len}
use Rattle.sv39.proofs.ram.put_zeros.Given as goal

abbrev pub invariant-loop : goal.invariant-loop
invariant-loop l =
    (l.words.items ≡ l.fn.words.items ++ replicate l.counter 0)
    × (vec_len l.words ≡ vec_len l.fn.words + l.counter)
    × (vec_capacity l.words ≡ vec_capacity l.fn.words)
