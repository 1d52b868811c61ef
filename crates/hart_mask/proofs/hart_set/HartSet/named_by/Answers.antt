use Rattle.std.proofs.Common.{ap, ◌∙◌}
use Rattle.hart_mask.specs.HartList.{named_by}
use Rattle.hart_mask.proofs.Words.{ids-shifted}
use Rattle.hart_mask.proofs.hart_set.HartSet.named_by.Goals as goal

pub returns : goal.returns
returns c = ids-shifted c.from.result c.args.base ∙ ap (λ mask. named_by mask c.args.base) c.from.ensures
