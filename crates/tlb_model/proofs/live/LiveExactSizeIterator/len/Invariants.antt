use Rattle.std.proofs.Common.{◌≡◌, length}
use Rattle.tlb_model.specs.Inside.Places.{seen}
use Rattle.tlb_model.proofs.live.LiveExactSizeIterator.len.Given as goal

abbrev pub invariant-loop-age : goal.invariant-loop-age
invariant-loop-age g l = l.len ≡ length (seen l.self-inside.next l.age l.self-inside.places.now l.self-inside.dates.now l.self-inside.dropped)
