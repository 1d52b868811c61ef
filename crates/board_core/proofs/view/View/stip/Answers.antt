use Rattle.std.proofs.Common.{◌∙◌, arith}
use Rattle.board_machine.proofs.Reading.{stip-read}
use Rattle.board_core.proofs.Viewed.{viewed}
use Rattle.board_core.proofs.view.View.stip.Goals as goal

pub pending-requires : goal.pending-requires
pending-requires c =
    let v = viewed c.self.view_is c.self.invariant in
    omega (arith, c.requires, v.sized.deadlines)

pub returns : goal.returns
returns c =
    let v = viewed c.self.view_is c.self.invariant in
    c.pending.ensures.answer ∙ stip-read _ _ _ c.args.h c.requires v.stands.interrupts.timers
