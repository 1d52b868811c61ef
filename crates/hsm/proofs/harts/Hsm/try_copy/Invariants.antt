use Rattle.std.proofs.Common.{◌≡◌, take, vec_capacity, vec_len}
use Rattle.hsm.proofs.harts.Hsm.try_copy.Given as goal

abbrev pub invariant-loop-phase : goal.invariant-loop-phase
invariant-loop-phase l =
    (l.phases.items ≡ take l.phase-index l.self-inside.phases.items)
    × (vec_len l.phases ≡ l.phase-index)
    × (vec_capacity l.phases ≡ vec_len l.self-inside.phases)
