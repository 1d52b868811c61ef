use Rattle.marked_conditions.specs.Marked.{IsAtWith}
use Rattle.marked_conditions.proofs.Firsts.{later}
use Rattle.marked_conditions.proofs.rules.no_later.Goals as goal

pub returns-in-Some : goal.returns-in-Some
returns-in-Some c =
    later (IsAtWith c.args.p.now c.args.events.now c.args.marks.now) (IsAtWith c.args.q.now c.args.events.now c.args.marks.now)
    c.in-Some.j c.first_with-in-Some.result c.is_none.result c.in-Some.ensures c.first_with-in-Some.ensures c.is_none.ensures
