use Rattle.outcome_statistics.proofs.Counting.{counted-both}
use Rattle.outcome_statistics.proofs.ends.Ends.add.Goals as goal

pub returns : goal.returns
returns c tried more here there = record {
  off = counted-both _ _ tried more _ _ _ here.off there.off c.saturating_add-self.ensures;
  full = counted-both _ _ tried more _ _ _ here.full there.full c.saturating_add-self-2.ensures;
  quiet = counted-both _ _ tried more _ _ _ here.quiet there.quiet c.saturating_add-self-3.ensures;
  stuck = counted-both _ _ tried more _ _ _ here.stuck there.stuck c.saturating_add-self-4.ensures;
}
