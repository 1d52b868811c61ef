use Rattle.board_core.proofs.Viewed.{viewed}
use Rattle.board_core.proofs.view.View.ram.Goals as goal

pub returns : goal.returns
returns c = (viewed c.self.view_is c.self.invariant).stands.memory.ram
