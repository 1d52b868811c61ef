use Rattle.std.proofs.Common.{arith, below_more}
use Rattle.conditions.proofs.Firsts.{none-behind, not-here}
use Rattle.conditions.proofs.rules.first_from.Goals as goal

pub loop-k-preserved : goal.loop-k-preserved
loop-k-preserved c =
    below_more _ c.loop-k.k c.loop-k.invariant
    (λ behind. not-here c.args.p.now c.args.events.now c.loop-k.k c.index-events-k.result c.matches.result c.index-events-k.is c.matches.ensures.1 c.if-matches.false)

pub returns : goal.returns
returns c = none-behind c.args.p.now c.args.events.now c.args.from c.loop-k.k (omega arith) c.loop-k.invariant
