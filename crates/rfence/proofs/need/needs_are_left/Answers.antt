use Rattle.rfence.proofs.Needs.{is-left}
use Rattle.rfence.proofs.need.needs_are_left.Goals as goal

pub returns : goal.returns
returns g c = is-left
