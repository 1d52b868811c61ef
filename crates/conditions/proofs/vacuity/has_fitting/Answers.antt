use Rattle.std.proofs.Common.{arith}
use Rattle.conditions.proofs.Saying.{none-keep, none-whole}
use Rattle.conditions.proofs.vacuity.has_fitting.Goals as goal

pub loop-event-preserved : goal.loop-event-preserved
loop-event-preserved c =
    none-keep c.args.p.now c.args.events.now c.loop-event.event-index c.event-item.result c.event-item.is
    (λ fits. absurd (let yes = c.fits_step.ensures.1 fits in let no = c.if-fits_step.false in cc)) c.loop-event.invariant

pub returns : goal.returns
returns c = (
  (λ bad. absurd (let t = bad in cc)),
  (λ has. absurd (none-whole c.args.p.now c.args.events.now c.loop-event.event-index (let over = c.loop-event-test.false in omega arith) c.loop-event.invariant has)),
)
