use Rattle.std.proofs.Common.{◌≡◌, ◌++◌, length, map}
use Rattle.std.specs.List.{All}
use Rattle.std.specs.Vec.Iter.{into_iter_items, into_iter_len}
use Rattle.board_terms.specs.declared.op.Actor.TheVariants.{Clock}
use Rattle.hart_threads.specs.Inside.Works.{met_by_all}
use Rattle.guest_programs.specs.Programs.{AreFirst}
use Rattle.hart_threads.proofs.program_run.parted.Given as goal

abbrev pub invariant-loop-worked : goal.invariant-loop-worked
invariant-loop-worked g l =
    (l.yielded ++ into_iter_items l.worked-iterator ≡ into_iter_items l.initial.worked-iterator)
    × (into_iter_len l.worked-iterator ≡ length (into_iter_items l.worked-iterator))
    × (map (λ seat. seat.actor) l.seats.items ≡ map (λ worked. worked.seat.actor) l.yielded)
    × All (λ seat. seat.actor ≡ Clock → AreFirst g.K.Plan.ticks seat.ops) l.seats.items
    × (l.met ≡ met_by_all (map (λ worked. worked.met) l.yielded))
    × (l.seats.items ≡ map (λ worked. worked.seat) l.yielded)
