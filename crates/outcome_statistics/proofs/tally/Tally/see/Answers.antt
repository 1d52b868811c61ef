use Rattle.std.proofs.Common.{refl, sym, inl, inr}
use Rattle.outcome_statistics.specs.Records.{IsSo}
use Rattle.outcome_statistics.proofs.Counting.{no-longer, none-is, some-is, tells-one, tells-other}
use Rattle.outcome_statistics.proofs.tally.Tally.see.Goals as goal

pub returns-then-holds : goal.returns-then-holds
returns-then-holds c asked tried x number decides tells =
    tells-one (IsSo asked) x tried c.args.self.now _ (decides.0 c.if-holds.true) tells c.saturating_add-self.ensures refl refl

pub returns-then-is_none : goal.returns-then-is_none
returns-then-is_none c asked tried x number decides tells =
    tells-other (IsSo asked) x tried c.args.self.now _ c.args.number (no-longer c.args.holds decides.1 c.if-holds.false) tells refl c.saturating_add-self-2.ensures refl
    (inr (none-is c.args.self.now.first c.is_none.result c.is_none.ensures c.if-is_none.true, sym number))

pub returns-else-is_none : goal.returns-else-is_none
returns-else-is_none c asked tried x number decides tells =
    let first = some-is c.args.self.now.first c.is_none.result c.is_none.ensures c.if-is_none.false in
    tells-other (IsSo asked) x tried c.args.self.now _ first.0 (no-longer c.args.holds decides.1 c.if-holds.false) tells refl c.saturating_add-self-2.ensures first.1 (inl first.1)
