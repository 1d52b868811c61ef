use Rattle.std.proofs.Common.{◌∙◌, arith}
use Rattle.board_machine.proofs.Reading.{wake-read}
use Rattle.board_core.proofs.Viewed.{viewed}
use Rattle.board_core.proofs.view.View.wake.Goals as goal

pub wake-requires-clause-in_range : goal.wake-requires-clause-in_range
wake-requires-clause-in_range c =
    let v = viewed c.self.view_is c.self.invariant in
    omega (arith, c.requires, v.sized.deadlines)

pub wake-requires-clause-most : goal.wake-requires-clause-most
wake-requires-clause-most c =
    let v = viewed c.self.view_is c.self.invariant in
    omega (arith, c.requires, v.kept.good.at_most_128_harts)

pub returns : goal.returns
returns c =
    let v = viewed c.self.view_is c.self.invariant in
    let most = v.kept.good.at_most_128_harts in
    c.wake.ensures ∙ wake-read _ _ _ c.args.h (omega (arith, c.requires)) c.requires v.stands.interrupts
