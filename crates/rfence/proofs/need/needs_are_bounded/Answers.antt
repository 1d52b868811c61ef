use Rattle.rfence.proofs.Bounds.{are-bounded}
use Rattle.rfence.proofs.need.needs_are_bounded.Goals as goal

pub returns : goal.returns
returns g c = are-bounded
