use Rattle.std.proofs.Common.{ap, ◌∙◌}
use Rattle.end_conditions.specs.Truths.{deepest_truth, whole_truth}
use Rattle.end_conditions.proofs.truths.holds_at_end.Goals as goal

pub returns : goal.returns
unfolding deepest_truth
returns g c = c.whole_truth.ensures ∙ ap whole_truth c.truth_at.ensures
