use Rattle.std.proofs.Common.{◌≡◌, drop}
use Rattle.asm_program.specs.Tables.{entry_for}
use Rattle.asm_program.proofs.tables.entry_for.Given as goal

abbrev pub invariant-loop-entry : goal.invariant-loop-entry
invariant-loop-entry l = entry_for l.map l.level (drop l.entry-index l.entries) ≡ entry_for l.map l.level l.entries
