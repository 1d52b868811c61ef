use Rattle.std.specs.Prelude.{◌≡◌, map, reverse, take}
use Rattle.board_terms.specs.declared.op.Actor.TheVariants.{Clock}
use Rattle.board_terms.specs.declared.op.Op.TheVariants.{Tick}
use Rattle.hart_threads.specs.Inside.Works.{IsAtWork, task}
use Rattle.hart_threads.proofs.clock.tick_all.Given as goal

abbrev pub invariant-loop-n : goal.invariant-loop-n
invariant-loop-n g l =
    (l.seat.actor ≡ Clock)
    × (l.seat.ops ≡ map Tick (take l.n-index g.K.Plan.ticks))
    × (l.seat.count ≡ l.n-index)
    × IsAtWork (task g.K.Plan.lets g.K.Plan.heard g.K.Room.opening g.K.Plan.guests g.K.Plan.ticks) Clock l.seat.count (reverse l.seat.saw)
