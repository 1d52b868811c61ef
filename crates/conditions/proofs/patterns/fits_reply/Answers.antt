use Rattle.std.proofs.Common.{refl}
use Rattle.conditions.specs.Items.{reply_items}
use Rattle.conditions.proofs.Fitting.{keeps, misfit, whole}
use Rattle.conditions.proofs.patterns.fits_reply.Goals as goal

pub returns-then-not-fits : goal.returns-then-not-fits
returns-then-not-fits c = (
  (λ bad. absurd (let t = bad in cc)),
  (λ fits. absurd (misfit c.args.p.now.reply.items _
      (reply_items c.args.event.now) _ c.loop-place.place c.fits.result c.deref-wanted-items.ensures.value c.reply_item.ensures c.loop-place-test.true c.fits.ensures.1 c.if-not-fits.true fits)),
)

pub loop-place-preserved : goal.loop-place-preserved
loop-place-preserved c =
    keeps c.args.p.now.reply.items _ (reply_items c.args.event.now) _ c.loop-place.place c.deref-wanted-items.ensures.value c.reply_item.ensures
    (c.fits.ensures.0 c.if-not-fits.false) c.loop-place.invariant

pub returns : goal.returns
returns c = (
  (λ good. whole c.args.p.now.reply.items _ (reply_items c.args.event.now) c.loop-place.place c.deref-wanted-items.ensures.value c.loop-place-test.false c.loop-place.invariant),
  (λ fits. refl),
)
