use Rattle.std.proofs.Common.{◌≡◌, ◌+◌, ◌≤◌, length}
use Rattle.std.specs.Prelude.{option_map}
use Rattle.asm_program.specs.Strings.{bytes_in, string_bytes, tail_of}
use Rattle.asm_program.proofs.strings.bytes_of.Given as goal

abbrev pub invariant-bytes : goal.invariant-bytes
invariant-bytes l =
    (option_map (λ bytes. l.size + length bytes) (bytes_in (tail_of l.is_ended) l.most l.rest)
    ≡ option_map length (string_bytes (tail_of l.is_ended) l.text)) × (l.size + l.most ≤ length l.text)

abbrev pub decreases-bytes : goal.decreases-bytes
decreases-bytes l = l.most
