use Rattle.std.proofs.Common.{◌≡◌, ◌+◌, ◌++◌, take, vec_len, vec_capacity}
use Rattle.script_lines.proofs.op_shape.put_all.Given as goal

abbrev pub invariant-loop-number : goal.invariant-loop-number
invariant-loop-number l =
    (l.numbers.items ≡ l.fn.numbers.items ++ take l.number-index l.more)
    × (vec_len l.numbers ≡ vec_len l.fn.numbers + l.number-index)
    × (vec_capacity l.numbers ≡ vec_capacity l.fn.numbers)
