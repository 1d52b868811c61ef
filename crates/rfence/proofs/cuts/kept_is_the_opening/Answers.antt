use Rattle.rfence.proofs.Seams.{kept-is}
use Rattle.rfence.proofs.cuts.kept_is_the_opening.Goals as goal

pub returns : goal.returns
returns g c = λ o n turns fences stands right. kept-is o n turns right fences stands
