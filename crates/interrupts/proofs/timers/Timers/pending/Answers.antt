use Rattle.std.proofs.Common.{length, ap, ◌∙◌, arith}
use Rattle.interrupts.specs.Timing.{Timing}
use Rattle.interrupts.proofs.Listing.{pending-by}
use Rattle.interrupts.proofs.timers.Timers.pending.Goals as goal

pub returns-clause-answer : goal.returns-clause-answer
returns-clause-answer c =
    let kept = c.self.invariant in
    let long = ap (λ (t : Timing). length t.deadlines) c.self.view_is in
    rw (← c.self.view_is) (c.contains.ensures.answer ∙ pending-by _ _ _ _ c.args.h (omega (arith, long, c.requires)) kept.1 kept.2)
