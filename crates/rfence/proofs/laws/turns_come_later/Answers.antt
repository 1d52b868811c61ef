use Rattle.rfence.proofs.Seams.{is-later}
use Rattle.rfence.proofs.laws.turns_come_later.Goals as goal

pub returns : goal.returns
returns g c = λ o n turns fences stands right. is-later o n turns right fences stands
