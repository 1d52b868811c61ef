use Rattle.std.proofs.Common.{◌≡◌, drop}
use Rattle.sv39.specs.Memory.{word_in}
use Rattle.any_tlb.specs.Watch.{given_by}
use Rattle.any_tlb.proofs.watcher.EntryWatch.replay.Given as goal

abbrev pub invariant-loop-step : goal.invariant-loop-step
invariant-loop-step l = record {
  va : l.self.va ≡ l.fn.self.va;
  entries : given_by (word_in l.fn.ram) l.fn.self.va l.self.entries.items (drop l.step-index l.fn.walks.items.items)
      ≡ given_by (word_in l.fn.ram) l.fn.self.va l.fn.self.entries.items l.fn.walks.items.items;
}
