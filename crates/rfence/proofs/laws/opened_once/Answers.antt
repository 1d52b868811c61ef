use Rattle.rfence.proofs.Once.{opened-once}
use Rattle.rfence.proofs.laws.opened_once.Goals as goal

pub returns : goal.returns
returns g c = opened-once
