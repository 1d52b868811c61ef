use Rattle.std.proofs.Common.{◌≡◌, ◌++◌, drop}
use Rattle.asm_program.specs.Tables.{written_words}
use Rattle.asm_program.proofs.tables.add_words.Given as goal

abbrev pub invariant-loop-entry : goal.invariant-loop-entry
invariant-loop-entry l =
    l.numbers.items ++ written_words l.statement l.leaf (drop l.entry-index l.entries)
    ≡ l.initial.numbers.items ++ written_words l.statement l.leaf l.entries
