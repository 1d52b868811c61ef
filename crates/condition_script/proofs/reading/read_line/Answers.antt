use Rattle.std.proofs.Common.{inr}
use Rattle.condition_script.proofs.reading.read_line.Goals as goal

pub returns-in_ok-push : goal.returns-in_ok-push
returns-in_ok-push c = inr (c.in-Some.condition, rw c.in-Some.is at c.in_ok-condition.ensures, c.in_ok-push.ensures.items)
