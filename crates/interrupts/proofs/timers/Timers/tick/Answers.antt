use Rattle.std.proofs.Common.{◌+◌, arith}
use Rattle.interrupts.proofs.Listing.{listed-moved, listed-on}
use Rattle.interrupts.proofs.timers.Timers.tick.Goals as goal

pub invariant_of-self : goal.invariant_of-self
invariant_of-self c =
    let kept = c.self.invariant in
    let time = c.self.inside.time + c.args.n in
    let on = listed-on c.self.inside.time time _ _ _ (omega arith) kept.1 in
    (omega (arith, c.if-n-self.false, kept.0), rw (c.move_due.ensures.left, c.move_due.ensures.moved) (listed-moved time _ _ _ on), c.move_due.ensures.later, kept.3)
