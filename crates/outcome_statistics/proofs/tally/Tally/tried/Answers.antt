use Rattle.outcome_statistics.specs.Records.{IsSo}
use Rattle.outcome_statistics.proofs.Counting.{all-told}
use Rattle.outcome_statistics.proofs.tally.Tally.tried.Goals as goal

pub returns : goal.returns
returns c asked tried tells = all-told (IsSo asked) tried c.args.self.now _ tells c.saturating_add.ensures
