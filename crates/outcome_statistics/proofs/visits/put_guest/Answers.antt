use Rattle.std.proofs.Common.{◌∙◌}
use Rattle.outcome_statistics.proofs.Visiting.{guests-clock}
use Rattle.outcome_statistics.proofs.visits.put_guest.Goals as goal

pub returns-in-Clock-clause-at : goal.returns-in-Clock-clause-at
returns-in-Clock-clause-at c harts past e by are moves = guests-clock harts past e c.args.guests.now (by ∙ c.in-Clock.is) are
