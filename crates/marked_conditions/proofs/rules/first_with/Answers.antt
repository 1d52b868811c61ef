use Rattle.std.proofs.Common.{arith, below_more}
use Rattle.marked_conditions.proofs.Firsts.{marks-are, marks_at, none-behind, not-here}
use Rattle.marked_conditions.proofs.rules.first_with.Goals as goal

pub loop-k-preserved : goal.loop-k-preserved
loop-k-preserved c =
    let marks = c.args.marks.now in
    let k = c.loop-k.k in
    below_more _ c.loop-k.k c.loop-k.invariant
    (λ behind. not-here c.args.p.now c.args.events.now c.args.marks.now c.loop-k.k c.index-events-k.result (marks_at marks k) c.matches_with.result
    c.index-events-k.is (marks-are c.args.events.now marks k c.requires c.loop-k-test.true) c.matches_with.ensures.1 c.if-matches_with.false)

pub returns : goal.returns
returns c = none-behind c.args.p.now c.args.events.now c.args.marks.now c.args.from c.loop-k.k (omega arith) c.loop-k.invariant
