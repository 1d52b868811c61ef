use Rattle.std.proofs.Common.{◌≡◌, drop}
use Rattle.std.specs.List.{list_all}
use Rattle.asm_instructions.specs.Supervisor.{is_order}
use Rattle.asm_instructions.proofs.supervisor.are_orders.Given as goal

abbrev pub invariant-loop-letter : goal.invariant-loop-letter
invariant-loop-letter l = list_all is_order (drop l.letter-index l.word) ≡ list_all is_order l.word
