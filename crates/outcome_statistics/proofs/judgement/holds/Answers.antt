use Rattle.std.proofs.Common.{inr}
use Rattle.outcome_statistics.proofs.judgement.holds.Goals as goal

pub returns-else-lacks_second : goal.returns-else-lacks_second
returns-else-lacks_second c tried ends some met = (
  some,
  met,
  inr (
    (λ lacks. absurd (let yes = c.lacks_first.ensures.1 lacks in let no = c.if-lacks_first.false in cc)),
    (λ lacks. absurd (let yes = c.lacks_second.ensures.1 lacks in let no = c.if-lacks_second.false in cc)),
  ),
)
