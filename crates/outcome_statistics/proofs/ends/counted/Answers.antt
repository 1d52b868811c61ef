use Rattle.outcome_statistics.proofs.Counting.{counted-one, counted-other, no-longer}
use Rattle.outcome_statistics.proofs.ends.counted.Goals as goal

pub returns-then-is_such : goal.returns-then-is_such
returns-then-is_such c ended x xs decides have = counted-one _ _ x xs c.args.count _ (decides.0 c.if-is_such.true) have c.saturating_add.ensures

pub returns-else-is_such : goal.returns-else-is_such
returns-else-is_such c ended x xs decides have = counted-other _ _ x xs c.args.count (no-longer c.args.is_such decides.1 c.if-is_such.false) have
