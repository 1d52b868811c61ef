use Rattle.rfence.proofs.Seams.{begins-right}
use Rattle.rfence.proofs.cuts.begins_right.Goals as goal

pub returns : goal.returns
returns g c = begins-right
