use Rattle.std.proofs.Common.{refl}
use Rattle.marked_conditions.specs.Marked.{IsAtWith}
use Rattle.marked_conditions.proofs.Firsts.{both-first, no-first}
use Rattle.marked_conditions.proofs.rules.is_before.Goals as goal

pub returns-in_default : goal.returns-in_default
returns-in_default c =
    ((λ _ j k a b. absurd (no-first (IsAtWith c.args.p.now c.args.events.now c.args.marks.now) c.first_with.result c.first_with.ensures c.in_default.is j a)), (λ _. refl))

pub returns-in-Some-first_with : goal.returns-in-Some-first_with
returns-in-Some-first_with c =
    both-first (IsAtWith c.args.p.now c.args.events.now c.args.marks.now) (IsAtWith c.args.q.now c.args.events.now c.args.marks.now)
    c.in-Some.j c.in-Some-first_with.k c.in-Some.ensures c.in-Some-first_with.ensures

pub returns-in-None : goal.returns-in-None
returns-in-None c =
    ((λ _ j k a b. absurd (no-first (IsAtWith c.args.q.now c.args.events.now c.args.marks.now) c.first_with-2.result c.first_with-2.ensures c.in-None.is k b)), (λ _. refl))
