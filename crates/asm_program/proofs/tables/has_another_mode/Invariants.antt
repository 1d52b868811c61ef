use Rattle.std.proofs.Common.{◌≡◌, drop}
use Rattle.std.specs.List.{list_any}
use Rattle.asm_program.specs.Tables.{is_of_another_mode}
use Rattle.asm_program.proofs.tables.has_another_mode.Given as goal

abbrev pub invariant-loop-entry : goal.invariant-loop-entry
invariant-loop-entry l =
    list_any (is_of_another_mode l.map) (drop l.entry-index l.entries) ≡ list_any (is_of_another_mode l.map) l.entries
