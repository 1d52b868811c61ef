use Rattle.std.proofs.Common.{◌≡◌, take}
use Rattle.tlb_watch.specs.Kept.{with_entries}
use Rattle.tlb_watch.proofs.kept.put_new.Given as goal

abbrev pub invariant-loop-entry : goal.invariant-loop-entry
invariant-loop-entry l = l.entries.items ≡ with_entries l.initial.entries.items (take l.entry-index l.given)
