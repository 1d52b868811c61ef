use Rattle.std.proofs.Common.{◌∙◌, arith}
use Rattle.board_machine.proofs.Reading.{sie-read}
use Rattle.board_core.proofs.Viewed.{viewed}
use Rattle.board_core.proofs.view.View.sie.Goals as goal

pub returns : goal.returns
returns c =
    let v = viewed c.self.view_is c.self.invariant in
    let most = v.kept.good.at_most_128_harts in
    c.sie.ensures ∙ sie-read _ _ _ c.args.h (omega (arith, c.requires)) v.stands.interrupts.csrs
