use Rattle.marked_conditions.specs.Marked.{IsAtWith}
use Rattle.marked_conditions.proofs.Firsts.{some-is-there}
use Rattle.marked_conditions.proofs.needs.has_matching.Goals as goal

pub returns : goal.returns
returns c =
    let Is = IsAtWith c.args.q.now c.args.events.now c.args.marks.now in
    some-is-there Is Is c.first_with.result c.is_some.result c.first_with.ensures c.is_some.ensures
