use Rattle.std.proofs.Common.{◌≡◌, ◌-◌, ◌++◌}
use Rattle.seeded_orders.specs.Ranks.{ranks_from}
use Rattle.seeded_orders.proofs.ranks.drawn.Given as goal

abbrev pub invariant-loop-i : goal.invariant-loop-i
invariant-loop-i l = l.ranks.items ++ ranks_from (l.many - l.i) l.words ≡ ranks_from l.many l.initial.words
