use Rattle.std.proofs.Common.{◌≡◌, ◌++◌, drop, replicate, None}
use Rattle.rfence.proofs.calls.close_all.Given as goal

abbrev pub invariant-loop-call : goal.invariant-loop-call
invariant-loop-call g l = l.call-items ≡ replicate l.call-index None ++ drop l.call-index l.fn.calls.items
