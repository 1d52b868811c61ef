use Rattle.board_laws.proofs.Once.{stops_leave_nothing}
use Rattle.board_laws.proofs.fences.stops_leave_nothing.Goals as goal

pub returns : goal.returns
returns c = stops_leave_nothing
