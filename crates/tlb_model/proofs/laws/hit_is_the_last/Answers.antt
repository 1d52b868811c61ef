use Rattle.std.proofs.Common.{refl}
use Rattle.tlb_model.proofs.laws.hit_is_the_last.Goals as goal

pub returns : goal.returns
returns g c = λ first opening covers holds key acts. refl
