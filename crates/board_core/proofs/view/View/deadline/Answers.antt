use Rattle.std.proofs.Common.{◌∙◌, arith}
use Rattle.board_machine.proofs.Reading.{deadline-read}
use Rattle.board_core.proofs.Viewed.{viewed}
use Rattle.board_core.proofs.view.View.deadline.Goals as goal

pub deadline-requires : goal.deadline-requires
deadline-requires c =
    let v = viewed c.self.view_is c.self.invariant in
    omega (arith, c.requires, v.sized.deadlines)

pub returns : goal.returns
returns c =
    let v = viewed c.self.view_is c.self.invariant in
    c.deadline.ensures ∙ deadline-read _ _ _ c.args.h c.requires v.stands.interrupts.timers
