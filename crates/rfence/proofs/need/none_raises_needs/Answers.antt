use Rattle.rfence.proofs.Needs.{none-raises}
use Rattle.rfence.proofs.need.none_raises_needs.Goals as goal

pub returns : goal.returns
returns g c = none-raises
