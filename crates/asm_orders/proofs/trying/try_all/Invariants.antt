use Rattle.std.specs.Prelude.{◌≡◌, length}
use Rattle.asm_orders.proofs.trying.try_all.Given as goal

abbrev pub invariant-loop-order : goal.invariant-loop-order
invariant-loop-order g l = length l.found.judged.items ≡ length l.conditions
