use Rattle.board_laws.proofs.InCalls.{calls_are_made_started}
use Rattle.board_laws.proofs.fences.calls_are_made_started.Goals as goal

pub returns : goal.returns
returns c = calls_are_made_started
