use Rattle.std.proofs.Common.{arith, below_more}
use Rattle.marked_conditions.proofs.Firsts.{marks-are, marks_at}
use Rattle.marked_conditions.proofs.Telling.{telling-not-here, telling-nowhere}
use Rattle.marked_conditions.proofs.needs.has_telling.Goals as goal

pub loop-k-preserved : goal.loop-k-preserved
loop-k-preserved c =
    let marks = c.args.marks.now in
    let k = c.loop-k.k in
    below_more _ c.loop-k.k c.loop-k.invariant
    (telling-not-here c.args.p.now c.args.events.now c.args.marks.now c.loop-k.k c.index-events-k.result (marks_at marks k) c.tells.result
    c.index-events-k.is (marks-are c.args.events.now marks k c.requires c.loop-k-test.true) c.tells.ensures.1 c.if-tells.false)

pub returns : goal.returns
returns c = (
  (λ bad. absurd (let t = bad in cc)),
  (λ has. absurd (telling-nowhere c.args.p.now c.args.events.now c.args.marks.now c.loop-k.k (omega arith) c.loop-k.invariant has)),
)
