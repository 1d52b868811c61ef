use Rattle.any_tlb.proofs.Carrying.{effects_go_on_over_cuts}
use Rattle.any_tlb.proofs.carried.effects_go_on_over_cuts.Goals as goal

pub returns : goal.returns
returns c = effects_go_on_over_cuts
