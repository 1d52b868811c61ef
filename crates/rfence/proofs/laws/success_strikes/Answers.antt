use Rattle.rfence.proofs.Success.{success}
use Rattle.rfence.proofs.laws.success_strikes.Goals as goal

pub returns : goal.returns
returns g c = λ o n newer between older x asked flush t right is. success o n newer between older x asked flush t is right
