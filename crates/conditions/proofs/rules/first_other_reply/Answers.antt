use Rattle.std.proofs.Common.{arith, sym, ◌∙◌}
use Rattle.conditions.proofs.Firsts.{replies-before, replies-keep, replies-whole, reply-misfit}
use Rattle.conditions.proofs.rules.first_other_reply.Goals as goal
use Rattle.conditions.proofs.rules.first_other_reply.Goals.{else-fits_step-via-then-fits_step+else-not-fits_reply, else-fits_step-via-else-fits_step}

pub returns-then-not-fits_reply : goal.returns-then-not-fits_reply
returns-then-not-fits_reply c = record {
  within = omega arith;
  before = replies-before c.args.p.now c.args.events.now c.loop-k.k c.loop-k.invariant;
  here = reply-misfit c.args.p.now c.args.events.now c.loop-k.k c.index-events-k.result c.fits_reply.result (omega arith) c.index-events-k.is
      (c.fits_step.ensures.0 c.if-fits_step.true) c.fits_reply.ensures.1 c.if-not-fits_reply.true;
}

pub loop-k-preserved : goal.loop-k-preserved
loop-k-preserved c =
    replies-keep c.args.p.now c.args.events.now c.loop-k.k c.index-events-k.result c.index-events-k.is (elim c.else-fits_step.branch [
      | else-fits_step-via-then-fits_step+else-not-fits_reply w ↦ (λ fits. w.fits_reply.ensures.0 w.if-not-fits_reply.false)
      | else-fits_step-via-else-fits_step w ↦ (λ fits. absurd (let t = sym (c.fits_step.ensures.1 fits) ∙ w.if-fits_step.false in cc))
    ]) c.loop-k.invariant

pub returns : goal.returns
returns c = replies-whole c.args.p.now c.args.events.now c.loop-k.k (omega arith) c.loop-k.invariant
