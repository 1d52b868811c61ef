use Rattle.std.proofs.Common.{◌∙◌, arith}
use Rattle.board_machine.proofs.Reading.{satp-read}
use Rattle.board_core.proofs.Viewed.{viewed}
use Rattle.board_core.proofs.view.View.satp_register.Goals as goal

pub satp-requires : goal.satp-requires
satp-requires c =
    let v = viewed c.self.view_is c.self.invariant in
    omega (arith, c.requires, v.sized.satps)

pub returns : goal.returns
returns c =
    let v = viewed c.self.view_is c.self.invariant in
    let b = c.args.self.now in
    c.satp.ensures ∙ satp-read b.opening b.past c.self.inside.machine.now.memory c.args.h 0 c.requires v.stands.memory
