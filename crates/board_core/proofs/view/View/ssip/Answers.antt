use Rattle.std.proofs.Common.{◌∙◌, arith}
use Rattle.board_core.specs.Interrupts.{ssip}
use Rattle.board_machine.proofs.Reading.{bit-read}
use Rattle.board_core.proofs.Viewed.{viewed}
use Rattle.board_core.proofs.view.View.ssip.Goals as goal

pub returns : goal.returns
returns c =
    let v = viewed c.self.view_is c.self.invariant in
    let b = c.args.self.now in
    let most = v.kept.good.at_most_128_harts in
    c.pending.ensures.answer ∙ bit-read b.opening b.past (ssip b.opening b.past) _ c.args.h (omega (arith, c.requires)) v.stands.interrupts.ipis.ssip
