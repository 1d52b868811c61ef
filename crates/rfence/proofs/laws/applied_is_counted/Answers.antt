use Rattle.rfence.proofs.Remote.{applied-is-counted}
use Rattle.rfence.proofs.laws.applied_is_counted.Goals as goal

pub returns : goal.returns
returns g c = applied-is-counted
