use Rattle.std.proofs.Common.{◌∙◌}
use Rattle.board_core.proofs.Viewed.{viewed}
use Rattle.board_core.proofs.view.View.time.Goals as goal

pub returns-clause-time : goal.returns-clause-time
returns-clause-time c =
    let v = viewed c.self.view_is c.self.invariant in
    c.time.ensures.time ∙ v.stands.interrupts.timers.time
