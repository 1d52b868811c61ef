use Rattle.std.proofs.Common.{refl}
use Rattle.conditions.proofs.Firsts.{both-first, no-first}
use Rattle.conditions.proofs.rules.is_before.Goals as goal

pub returns-in_default : goal.returns-in_default
returns-in_default c = ((λ _ j k a b. absurd (no-first c.args.p.now c.args.events.now c.first_from.result c.first_from.ensures c.in_default.is j a)), (λ _. refl))

pub returns-in-Some-first_from : goal.returns-in-Some-first_from
returns-in-Some-first_from c = both-first c.args.p.now c.args.q.now c.args.events.now c.in-Some.j c.in-Some-first_from.k c.in-Some.ensures c.in-Some-first_from.ensures

pub returns-in-None : goal.returns-in-None
returns-in-None c = ((λ _ j k a b. absurd (no-first c.args.q.now c.args.events.now c.first_from-2.result c.first_from-2.ensures c.in-None.is k b)), (λ _. refl))
