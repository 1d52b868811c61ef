use Rattle.std.proofs.Common.{◌≡◌}
use Rattle.asm_guests.specs.Unknowns.{lacks_argument}
use Rattle.asm_guests.proofs.unknowns.lacks_argument.Given as goal

abbrev pub invariant-loop-i : goal.invariant-loop-i
invariant-loop-i l = l.some ≡ lacks_argument l.state l.i
