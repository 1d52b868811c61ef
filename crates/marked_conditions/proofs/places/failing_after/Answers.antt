use Rattle.marked_conditions.proofs.Firsts.{behind-first, no-first-at-all}
use Rattle.marked_conditions.proofs.places.failing_after.Goals as goal

pub returns-in-Some : goal.returns-in-Some
returns-in-Some c =
    behind-first c.args.p.now c.args.q.now c.args.events.now c.args.marks.now c.in-Some.first c.first_with-in-Some.result c.in-Some.ensures c.first_with-in-Some.ensures

pub returns-in-None : goal.returns-in-None
returns-in-None c = no-first-at-all c.args.p.now c.args.q.now c.args.events.now c.args.marks.now c.first_with.result c.first_with.ensures c.in-None.is
