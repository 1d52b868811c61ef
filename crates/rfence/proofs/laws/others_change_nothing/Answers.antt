use Rattle.rfence.proofs.Stands.{stands-own, stands-quiet}
use Rattle.rfence.proofs.laws.others_change_nothing.Goals as goal

pub returns : goal.returns
returns g c = λ fences. (λ x flush o n turns stands right. stands-own o n turns fences stands x flush, λ o n turns stands right. stands-quiet o n turns fences stands)
