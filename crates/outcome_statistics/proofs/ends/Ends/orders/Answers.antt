use Rattle.outcome_statistics.proofs.Ended.{ended-all}
use Rattle.outcome_statistics.proofs.ends.Ends.orders.Goals as goal

pub returns : goal.returns
returns c tried have = ended-all tried c.args.self.now _ _ _ have c.saturating_add.ensures c.saturating_add-2.ensures c.saturating_add-3.ensures
