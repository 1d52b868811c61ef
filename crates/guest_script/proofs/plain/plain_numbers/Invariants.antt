use Rattle.std.proofs.Common.{length, ◌≤◌}
use Rattle.guest_script.specs.Inside.PlainLines.{BeginsNumbers}
use Rattle.guest_script.proofs.plain.plain_numbers.Given as goal

abbrev pub invariant-loop-rest : goal.invariant-loop-rest
invariant-loop-rest l = BeginsNumbers l.bytes l.found.items l.rest × (length l.rest ≤ length l.bytes) × (length l.found.items ≤ l.most)

abbrev pub decreases-loop-rest : goal.decreases-loop-rest
decreases-loop-rest l = length l.rest
