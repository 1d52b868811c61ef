use Rattle.std.proofs.Common.{◌∙◌, arith}
use Rattle.board_machine.proofs.Situations.{call-read}
use Rattle.board_core.proofs.Viewed.{viewed}
use Rattle.board_core.proofs.view.View.outstanding.Goals as goal

pub outstanding-requires : goal.outstanding-requires
outstanding-requires c =
    let v = viewed c.self.view_is c.self.invariant in
    omega (arith, c.requires, v.sized.calls)

pub returns : goal.returns
returns c =
    let v = viewed c.self.view_is c.self.invariant in
    c.outstanding.ensures ∙ call-read _ _ _ v.stands.fences c.args.h c.requires
