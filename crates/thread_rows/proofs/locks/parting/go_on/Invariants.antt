use Rattle.std.proofs.Common.{◌≡◌, []}
use Rattle.thread_rows.proofs.locks.parting.go_on.Given as goal

abbrev pub invariant-loop : goal.invariant-loop
invariant-loop g l = l.board.past ≡ []
