use Rattle.std.proofs.Common.{◌≡◌, ◌+◌, ◌≤◌, ◌++◌, List, ℕ, length}
use Rattle.std.specs.Str.Lines.{lines}
use Rattle.guest_script.specs.Inside.Progress.{script_after}
use Rattle.guest_script.proofs.progress.Progress.read_lines.Given as goal

abbrev pub invariant-loop-rest : goal.invariant-loop-rest
invariant-loop-rest l =
    ((more : List (List ℕ)) → script_after l.fn.self (lines l.bytes ++ more) ≡ script_after l.self (lines l.rest ++ more))
    × (l.self.next + length l.rest ≤ l.fn.self.next + length l.bytes)

abbrev pub decreases-loop-rest : goal.decreases-loop-rest
decreases-loop-rest l = length l.rest
