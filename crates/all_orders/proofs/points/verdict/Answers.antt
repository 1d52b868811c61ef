use Rattle.all_orders.proofs.points.verdict.Goals as goal

pub returns-in-Some : goal.returns-in-Some
returns-in-Some g c p seconds states told seen = c.in-Some.ensures

pub returns-in-None : goal.returns-in-None
returns-in-None g c p seconds states told seen = c.judged.ensures p seconds states told seen
