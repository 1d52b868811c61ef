use Rattle.std.proofs.Common.{◌∙◌, arith}
use Rattle.board_machine.proofs.Situations.{queue-read}
use Rattle.board_core.proofs.Viewed.{viewed}
use Rattle.board_core.proofs.view.View.waiting.Goals as goal

pub iter-requires : goal.iter-requires
iter-requires c =
    let v = viewed c.self.view_is c.self.invariant in
    omega (arith, c.requires, v.sized.queues)

pub returns : goal.returns
returns c =
    let v = viewed c.self.view_is c.self.invariant in
    c.iter.ensures.requests ∙ queue-read _ _ _ v.stands.fences c.args.h c.requires
