use Rattle.test_runner.proofs.Trying.{by-time, still-tried}
use Rattle.test_runner.proofs.testing.test_some.Goals as goal

-- the orders first, and then the runs
pub returns : goal.returns
returns g c =
    let options = c.args.trial.now.options.now in
    let script = c.args.trial.now.script.now in
    let conditions = c.args.trial.now.case.conditions.now in
    let first = c.test_orders.new.file in
    let file = c.test_runs.new.file in record {
      program = c.requires;
      begun = c.new-file.result;
      none = c.new-file.ensures.empty;
      first = first;
      orders = still-tried options script conditions c.new-file.result first first.is_cut file.is_cut c.test_runs.ensures.cut
          c.in_ok-test_orders.ensures.points;
      no_runs = c.test_runs.ensures.none;
      runs = c.in_ok-test_runs.ensures.points;
      time = by-time options.limit.seconds c.new-file.result.is_cut first.is_cut file.is_cut c.new-file.ensures.whole c.test_orders.ensures.time
          c.test_runs.ensures.time;
    }
