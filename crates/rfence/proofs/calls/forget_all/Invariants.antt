use Rattle.std.proofs.Common.{◌≡◌, ◌++◌, drop, map, take}
use Rattle.rfence.specs.Inside.Marks.{forgotten}
use Rattle.rfence.proofs.calls.forget_all.Given as goal

abbrev pub invariant-loop-call : goal.invariant-loop-call
invariant-loop-call l =
    l.call-items ≡ map (forgotten l.t) (take l.call-index l.fn.calls.items) ++ drop l.call-index l.fn.calls.items
