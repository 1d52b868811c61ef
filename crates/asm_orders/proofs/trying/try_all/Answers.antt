use Rattle.std.proofs.Common.{refl}
use Rattle.asm_orders.proofs.trying.try_all.Goals as goal

pub loop-order-init : goal.loop-order-init
loop-order-init g c = (c.in_ok-found.ensures 0 c.args.search.now.case.conditions.now refl).many
