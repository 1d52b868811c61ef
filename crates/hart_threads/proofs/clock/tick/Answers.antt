use Rattle.hart_threads.specs.Inside.Works.{Task, task}
use Rattle.hart_threads.proofs.Steps.{worked-later}
use Rattle.hart_threads.proofs.clock.tick.Goals as goal

pub returns-clause-worked : goal.returns-clause-worked
returns-clause-worked g c =
    let t : Task = task g.K.Plan.lets g.K.Plan.heard g.K.Room.opening g.K.Plan.guests g.K.Plan.ticks in
    worked-later t c.tick_all-met.new.seat c.rest_for.new.seat c.tick_all-met.result c.rest_for.ensures.seat c.rest_for.ensures.later c.tick_all-met.ensures.worked
