use Rattle.rfence.proofs.Counts.{few-asked, outstanding-set}
use Rattle.rfence.proofs.Totals.{few-applied}
use Rattle.rfence.proofs.laws.boards_are_small.Goals as goal

pub returns : goal.returns
returns g c = λ o n turns right. record {
  calls = λ h. outstanding-set o n turns h right;
  asked = few-asked o n turns right;
  applied = few-applied o n turns right;
}
