use Rattle.std.proofs.Common.{◌≡◌, drop}
use Rattle.asm_program.specs.Tables.{mapped, walked}
use Rattle.asm_program.proofs.tables.add_map.Given as goal

abbrev pub invariant-loop-level : goal.invariant-loop-level
invariant-loop-level l =
    walked l.map (record { entries = l.entries.items; next = l.next; table = l.reached.table; at = l.reached.at }) (drop l.level-index l.levels)
    ≡ mapped l.map l.initial.next l.initial.entries.items
