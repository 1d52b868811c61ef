use Rattle.std.proofs.Common.{◌≡◌}
use Rattle.asm_program.specs.Inside.Passes.{with_before}
use Rattle.asm_program.specs.Strings.{bytes_in, placed_or, string_bytes, tail_of}
use Rattle.asm_program.proofs.strings.add_bytes.Given as goal

abbrev pub invariant-bytes : goal.invariant-bytes
invariant-bytes l =
    with_before l.numbers.items (placed_or l.next l.left (bytes_in (tail_of l.is_ended) l.most l.rest))
    ≡ with_before l.initial.numbers.items (placed_or l.at l.left (string_bytes (tail_of l.is_ended) l.text))

abbrev pub decreases-bytes : goal.decreases-bytes
decreases-bytes l = l.most
