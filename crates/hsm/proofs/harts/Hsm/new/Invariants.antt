use Rattle.std.proofs.Common.{◌≡◌, map, vec_capacity, vec_len}
use Rattle.hsm.specs.Inside.Phases.{hart_of}
use Rattle.hsm.specs.Transitions.{opening}
use Rattle.hsm.proofs.harts.Hsm.new.Given as goal

abbrev pub invariant-loop-h : goal.invariant-loop-h
invariant-loop-h l =
    (map hart_of l.phases.items ≡ opening l.h l.boot_hart l.boot)
    × (vec_len l.phases ≡ l.h)
    × (vec_capacity l.phases ≡ l.harts)
