use Rattle.std.proofs.Common.{◌≡◌, drop}
use Rattle.std.specs.List.{list_any}
use Rattle.asm_program.specs.Tables.{is_leaf_by}
use Rattle.asm_program.proofs.tables.has_leaf.Given as goal

abbrev pub invariant-loop-entry : goal.invariant-loop-entry
invariant-loop-entry l =
    list_any (is_leaf_by l.statement) (drop l.entry-index l.entries) ≡ list_any (is_leaf_by l.statement) l.entries
