use Rattle.rfence.proofs.Seams.{seamless}
use Rattle.rfence.proofs.cuts.cuts_are_seamless.Goals as goal

pub returns : goal.returns
returns g c = λ o n newer older right. seamless o n older newer right
