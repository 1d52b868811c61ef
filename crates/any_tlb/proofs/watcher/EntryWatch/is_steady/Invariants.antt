use Rattle.std.specs.List.{AllWithin}
use Rattle.sv39.specs.Memory.{word_in}
use Rattle.any_tlb.specs.Watch.{AgreesWithTables}
use Rattle.any_tlb.proofs.watcher.EntryWatch.is_steady.Given as goal

abbrev pub invariant-loop-entry : goal.invariant-loop-entry
invariant-loop-entry l = AllWithin (AgreesWithTables (word_in l.fn.ram) l.fn.satp l.fn.self.va l.kind) l.self.entries.items 0 l.entry-index
