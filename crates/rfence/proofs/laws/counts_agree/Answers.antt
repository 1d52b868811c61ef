use Rattle.rfence.proofs.Totals.{counts-agree}
use Rattle.rfence.proofs.laws.counts_agree.Goals as goal

pub returns : goal.returns
returns g c = counts-agree
