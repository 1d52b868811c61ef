use Rattle.std.proofs.Common.{◌-◌, ◌^◌, List, [], length, ap, ◌∙◌, arith}
use Rattle.std.specs.Prelude.{◌≢◌, Some, min}
use Rattle.outcome_statistics.specs.Records.{Tried}
use Rattle.outcome_statistics.proofs.judgement.judged_by.Goals as goal

pub returns-then-not-all_meet : goal.returns-then-not-all_meet
returns-then-not-all_meet c tried tells =
    c.fails.ensures tried c.args.ends.now (λ met. absurd (let yes = (c.all_meet.ensures tried tells).1 met in let no = c.if-not-all_meet.true in cc))

pub returns : goal.returns
returns c tried tells =
    let some : tried ≢ [] = λ none.
    absurd (let is = c.tried.ensures (Some c.args.condition.now.rule) tried tells ∙ ap (λ (all : List Tried). min (length all) (2 ^ 64 - 1)) none in
    let no = c.if-tried-eq0.false in omega arith) in
    c.holds.ensures tried c.args.ends.now some ((c.all_meet.ensures tried tells).0 c.if-not-all_meet.false)
