use Rattle.outcome_statistics.proofs.Asking.{holds-bare, holds-marked}
use Rattle.outcome_statistics.proofs.judging.holds_of.Goals as goal

pub holds_with-requires : goal.holds_with-requires
holds_with-requires c = c.requires (let is = c.asks_of_marks.ensures in let yes = c.if-asks_of_marks.true in cc)

pub returns-then-asks_of_marks : goal.returns-then-asks_of_marks
returns-then-asks_of_marks c x events marks end =
    holds-marked c.args.rule.now x c.asks_of_marks.result c.args.events.now c.asks_of_marks.ensures events c.holds_with.result c.args.end end
    c.args.marks.now marks c.if-asks_of_marks.true c.holds_with.ensures

pub returns-else-asks_of_marks : goal.returns-else-asks_of_marks
returns-else-asks_of_marks c x events marks end =
    holds-bare c.args.rule.now x c.asks_of_marks.result c.args.events.now c.asks_of_marks.ensures events c.holds.result c.args.end end
    c.if-asks_of_marks.false c.holds.ensures
