use Rattle.std.proofs.Common.{◌≡◌, ap, subst}
use Rattle.board_terms.specs.declared.config.Config.{Config}
use Rattle.board_core.specs.Course.{Course}
use Rattle.guest_script.specs.Grammar.{content}
use Rattle.seeded_orders.specs.Orders.{IsTried}
use Rattle.guest_programs.specs.Steps.{Task, task_in, task_of}
use Rattle.seeded_orders.proofs.Ordering.{same-task}
use Rattle.seeded_orders.proofs.orders.try_order.Goals as goal

pub returns-clause-tried : goal.returns-clause-tried
returns-clause-tried c =
    let body = content c.args.script.now.body in
    let config : c.in_ok-board.board.opening.config ≡ c.args.script.now.config = ap (λ (b : Course). b.opening.config) c.in_ok-board.ensures.made in
    let task : task_in c.in_ok-program.program ≡ task_of body = same-task c.in_ok-program.program body c.in_ok-program.ensures.blocks c.in_ok-program.ensures.ticks in
    let T : Config → Task → Type 0 = λ k p. IsTried k p c.args.seed c.args.order c.try_order_on.new.board.past c.in_ok-end.end in
    subst (T c.args.script.now.config) task (subst (λ (k : Config). T k (task_in c.in_ok-program.program)) config c.in_ok-end.ensures.tried)
