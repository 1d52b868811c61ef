use Rattle.std.proofs.Common.{sym, ap, ◌∙◌, arith}
use Rattle.hart_mask.specs.Ids.{ids_below}
use Rattle.hart_mask.proofs.Words.{ids-low_ones, ids-ones}
use Rattle.hart_mask.proofs.hart_set.HartSet.below.Goals as goal

pub returns-then-n-eq128 : goal.returns-then-n-eq128
returns-then-n-eq128 c = ids-ones 128 ∙ sym (ap ids_below c.if-n-eq128.true)

pub returns : goal.returns
returns c = ids-low_ones c.args.n (omega arith)
