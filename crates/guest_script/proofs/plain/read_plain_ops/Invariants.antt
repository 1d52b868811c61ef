use Rattle.std.proofs.Common.{ℕ, ◌+◌, ◌≤◌, List, Option, length}
use Rattle.guest_script.specs.Grammar.{Guest}
use Rattle.guest_script.specs.Inside.Drafts.{in_guest}
use Rattle.guest_script.specs.Reading.{GoesOn}
use Rattle.guest_script.proofs.plain.read_plain_ops.Given as goal

abbrev pub invariant-loop-after : goal.invariant-loop-after
invariant-loop-after l =
    ((before : List Guest) (clock : Option (List ℕ)) (addr : ℕ)
    → GoesOn l.first (in_guest before clock addr l.fn.ops.items) l.bytes l.number (in_guest before clock addr l.ops.items) l.rest)
    × (l.number + length l.rest ≤ l.first + length l.bytes)
    × (length l.rest ≤ length l.bytes)

abbrev pub decreases-loop-after : goal.decreases-loop-after
decreases-loop-after l = length l.rest
