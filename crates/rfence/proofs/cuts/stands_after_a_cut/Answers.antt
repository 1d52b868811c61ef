use Rattle.rfence.proofs.Seams.{stands-after}
use Rattle.rfence.proofs.cuts.stands_after_a_cut.Goals as goal

pub returns : goal.returns
returns g c = λ o n turns fences stands right. stands-after o n turns right fences stands
