use Rattle.std.proofs.Common.{◌++◌}
use Rattle.board_terms.specs.declared.config.Config.{Config}
use Rattle.guest_script.specs.Grammar.{Content, content}
use Rattle.tried_orders.proofs.Trying.{orders-behind}
use Rattle.tried_orders.proofs.orders.try_batch.Goals as goal

-- the batch's orders stand behind those before
pub returns : goal.returns
returns g c first records are right =
    let numbers : Config = c.args.trial.now.script.now.config in
    let body : Content = content c.args.trial.now.script.now.body in
    let more = c.in_ok-more.ensures.found in (
      more.0 ++ records,
      orders-behind numbers body c.args.trial.now.case.conditions.now c.args.trial.now.options.now.seed first c.args.from c.args.to records more.0 are more.1,
      c.in_ok-add.ensures numbers.harts c.args.trial.now.case.conditions.now records more.0 right more.2,
    )
