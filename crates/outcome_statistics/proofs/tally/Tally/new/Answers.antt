use Rattle.outcome_statistics.specs.Records.{IsSo}
use Rattle.outcome_statistics.proofs.Counting.{tells-none}
use Rattle.outcome_statistics.proofs.tally.Tally.new.Goals as goal

pub returns : goal.returns
returns c asked = tells-none (IsSo asked)
