use Rattle.outcome_statistics.proofs.Counting.{counted-none}
use Rattle.outcome_statistics.proofs.ends.Ends.new.Goals as goal

pub returns : goal.returns
returns c = record { off = counted-none _ _; full = counted-none _ _; quiet = counted-none _ _; stuck = counted-none _ _ }
