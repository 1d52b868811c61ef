use Rattle.std.proofs.Common.{arith}
use Rattle.std.proofs.lemmas.List.{drop_all}
use Rattle.seeded_orders.proofs.Ranking.{highest-next, highest-whole}
use Rattle.seeded_orders.proofs.ranks.highest.Goals as goal

pub loop-step-preserved : goal.loop-step-preserved
loop-step-preserved c =
    highest-next c.args.ranks.now c.loop-step.best _ c.args.steps.now c.loop-step.step-index _ c.higher.result c.loop-step-test.true c.higher.ensures c.loop-step.invariant

pub returns : goal.returns
returns c = highest-whole c.args.ranks.now c.loop-step.best _ c.args.steps.now c.loop-step.step-index (drop_all c.loop-step.step-index c.args.steps.now (omega arith)) c.loop-step.invariant
