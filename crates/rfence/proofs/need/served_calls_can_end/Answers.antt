use Rattle.rfence.proofs.Bounds.{can-end}
use Rattle.rfence.proofs.need.served_calls_can_end.Goals as goal

pub returns : goal.returns
returns g c = can-end
