use Rattle.seeded_orders.proofs.Choosing.{same-choices}
use Rattle.seeded_orders.proofs.kept.choices_tell_records.Goals as goal

pub returns : goal.returns
returns c conf p one other good legal law own owns same = same-choices conf p one other good legal law own owns same
