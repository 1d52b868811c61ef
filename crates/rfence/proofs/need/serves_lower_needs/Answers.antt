use Rattle.rfence.proofs.Needs.{serve-lowers}
use Rattle.rfence.proofs.need.serves_lower_needs.Goals as goal

pub returns : goal.returns
returns g c = serve-lowers
