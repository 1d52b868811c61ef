use Rattle.std.proofs.Common.{refl, inl, inr}
use Rattle.outcome_statistics.specs.Records.{IsSo}
use Rattle.outcome_statistics.proofs.Counting.{none-is, some-is, tells-both}
use Rattle.outcome_statistics.proofs.tally.Tally.add.Goals as goal

pub returns-then-is_none : goal.returns-then-is_none
returns-then-is_none c asked tried more here there =
    tells-both (IsSo asked) tried more c.args.self.now c.args.later _ here there c.saturating_add-self.ensures c.saturating_add-self-2.ensures
    (inl (none-is c.args.self.now.first c.is_none.result c.is_none.ensures c.if-is_none.true, refl))

pub returns-else-is_none : goal.returns-else-is_none
returns-else-is_none c asked tried more here there =
    tells-both (IsSo asked) tried more c.args.self.now c.args.later _ here there c.saturating_add-self.ensures c.saturating_add-self-2.ensures
    (inr (some-is c.args.self.now.first c.is_none.result c.is_none.ensures c.if-is_none.false, refl))
