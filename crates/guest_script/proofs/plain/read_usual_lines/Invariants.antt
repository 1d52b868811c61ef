use Rattle.std.proofs.Common.{◌+◌, ◌≤◌, length}
use Rattle.guest_script.specs.Inside.Drafts.{steps_of}
use Rattle.guest_script.specs.Reading.{GoesOn}
use Rattle.guest_script.proofs.plain.read_usual_lines.Given as goal

abbrev pub invariant-loop-after : goal.invariant-loop-after
invariant-loop-after l =
    GoesOn l.first (steps_of l.in_trace l.fn.steps) l.bytes l.number (steps_of l.in_trace l.steps) l.rest
    × (l.number + length l.rest ≤ l.first + length l.bytes)
    × (length l.rest ≤ length l.bytes)

abbrev pub decreases-loop-after : goal.decreases-loop-after
decreases-loop-after l = length l.rest
