use Rattle.std.proofs.Common.{◌≡◌, take}
use Rattle.tlb_watch.specs.Kept.{said_before}
use Rattle.tlb_watch.proofs.kept.said_before.Given as goal

abbrev pub invariant-loop-walking : goal.invariant-loop-walking
invariant-loop-walking l = l.kept.items ≡ said_before l.satp (take l.walking-index l.walks)
