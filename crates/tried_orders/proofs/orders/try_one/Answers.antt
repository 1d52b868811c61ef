use Rattle.std.proofs.Common.{[], refl, arith}
use Rattle.tried_orders.proofs.orders.try_one.Goals as goal

-- the time was over
pub returns-then-branch-clause-found : goal.returns-then-branch-clause-found
returns-then-branch-clause-found g c = record {
  tried = [];
  are = record { to = c.args.order; are = refl; most = omega arith; whole = (λ no. absurd (let t = no in cc)) };
  right = c.in_ok-found.ensures c.args.trial.now.script.now.config.harts c.args.trial.now.case.conditions.now refl;
}

-- before any order is seen
pub see_order-requires-clause-none : goal.see_order-requires-clause-none
see_order-requires-clause-none g c = λ harts. c.in_ok-found.ensures harts c.args.trial.now.case.conditions.now refl

pub returns-clause-found : goal.returns-clause-found
returns-clause-found g c = c.in_ok-see_order.ensures _
