use Rattle.outcome_statistics.proofs.Visiting.{visited-none}
use Rattle.outcome_statistics.proofs.visits.Visits.new.Goals as goal

pub returns : goal.returns
returns c harts = visited-none harts _ c.new.ensures.empty c.new-2.ensures.empty c.new-3.ensures.empty
