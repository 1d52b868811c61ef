use Rattle.std.proofs.Common.{Some}
use Rattle.outcome_statistics.proofs.judging.judge.Goals as goal

pub returns : goal.returns
returns c tried x number events marks end tells =
    c.see.ensures (Some c.args.rule.now) tried x number (c.meets-holds.ensures x events marks end) tells
