use Rattle.std.proofs.Common.{◌≡◌, ◌≤◌, length, min, reverse}
use Rattle.tlb_model.specs.Inside.Places.{seen}
use Rattle.tlb_model.proofs.live.LiveIterator.next.Given as goal

abbrev pub invariant-loop-age : goal.invariant-loop-age
invariant-loop-age g l =
    (reverse (seen l.self-inside.next l.self-inside.left l.self-inside.places.now l.self-inside.dates.now l.self-inside.dropped) ≡ l.fn.self)
    × (l.self-inside.left ≡ l.age) × (length l.self-inside.places.now ≡ min 16 l.self-inside.next) × (l.age ≤ length l.self-inside.places.now)
