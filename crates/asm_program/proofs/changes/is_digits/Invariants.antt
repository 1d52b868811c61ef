use Rattle.std.proofs.Common.{◌≡◌, drop}
use Rattle.std.specs.Int.{is_in_range}
use Rattle.std.specs.List.{list_all}
use Rattle.asm_program.proofs.changes.is_digits.Given as goal

abbrev pub invariant-loop-byte : goal.invariant-loop-byte
invariant-loop-byte l = list_all (is_in_range 48 57) (drop l.byte-index l.name) ≡ list_all (is_in_range 48 57) l.name
