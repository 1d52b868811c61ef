use Rattle.std.specs.Prelude.{◌≡◌}
use Rattle.board_lock.specs.Views.{IsView}
use Rattle.hart_threads.specs.Inside.Works.{Goes, task}
use Rattle.hart_threads.proofs.harts.follow.Given as goal

abbrev pub invariant-loop : goal.invariant-loop
invariant-loop g l =
    (l.seat.actor ≡ l.fn.seat.actor)
    × Goes (task g.K.Plan.lets g.K.Plan.heard g.K.Room.opening g.K.Plan.guests g.K.Plan.ticks) l.seat (g.P.Guests.rest l.work.guests.now l.place) l.met
    × IsView g.K.Room.opening l.seat l.view
