use Rattle.std.proofs.Common.{[], refl, arith}
use Rattle.tried_orders.proofs.orders.try_up_to.Goals as goal

pub loop-from-init : goal.loop-from-init
loop-from-init g c = (omega arith, refl, refl, (λ none. ([], refl, none)))

pub loop-from-preserved : goal.loop-from-preserved
loop-from-preserved g c = (
  omega arith,
  c.loop-from.invariant.1,
  c.loop-from.invariant.2,
  (λ none.
      let before = c.loop-from.invariant.3 none in
      c.in_ok-try_batch.ensures 0 before.0 before.1 before.2),
)
