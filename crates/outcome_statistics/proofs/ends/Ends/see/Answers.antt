use Rattle.conditions.specs.Ending.TheVariants as endings
use Rattle.guest_programs.specs.declared.ends.End.TheVariants as ends
use Rattle.outcome_statistics.proofs.Words.{same-end}
use Rattle.outcome_statistics.proofs.ends.Ends.see.Goals as goal

pub returns : goal.returns
returns c tried x is have = record {
  off = c.counted-self.ensures endings.Off x tried (same-end c.is.result c.args.end ends.Off x.end c.is.ensures is) have.off;
  full = c.counted-self-2.ensures endings.HistoryFull x tried (same-end c.is-2.result c.args.end ends.HistoryFull x.end c.is-2.ensures is) have.full;
  quiet = c.counted-self-3.ensures endings.Quiet x tried (same-end c.is-3.result c.args.end ends.Quiet x.end c.is-3.ensures is) have.quiet;
  stuck = c.counted-self-4.ensures endings.Stuck x tried (same-end c.is-4.result c.args.end ends.Stuck x.end c.is-4.ensures is) have.stuck;
}
