use Rattle.std.proofs.Common.{refl}
use Rattle.outcome_statistics.proofs.Failing.{failing-after, failing-after-none}
use Rattle.outcome_statistics.proofs.judging.failing_after.Goals as goal

pub returns-in-Some : goal.returns-in-Some
returns-in-Some c = failing-after c.args.p.now c.args.q.now c.args.events.now c.in-Some.first _ c.first_from-in-Some.result c.in-Some.ensures refl c.first_from-in-Some.ensures

pub returns-in-None : goal.returns-in-None
returns-in-None c = failing-after-none c.args.p.now c.args.q.now c.args.events.now c.first_from.result _ c.first_from.ensures c.in-None.is refl
