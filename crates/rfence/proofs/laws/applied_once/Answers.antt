use Rattle.rfence.proofs.Once.{applied-once}
use Rattle.rfence.proofs.laws.applied_once.Goals as goal

pub returns : goal.returns
returns g c = applied-once
