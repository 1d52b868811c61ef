use Rattle.std.proofs.Common.{◌≡◌, ◌+◌, ◌/◌, arith}
use Rattle.interrupts.proofs.Members.{earlier-at, later-from}
use Rattle.interrupts.proofs.ahead.place_of.Goals as goal
use Rattle.interrupts.proofs.ahead.place_of.Goals.{then-members-low, else-members-low}

pub loop-size-preserved : goal.loop-size-preserved
loop-size-preserved c =
    let kept = c.loop-size.invariant in
    let members = c.args.members.now in
    let middle = c.loop-size.low + c.loop-size.size / 2 in
    elim c.if-members-low.branch [
      | then-members-low w ↦
          let place : c.loop-size.low + c.if-members-low.low ≡ middle = omega (arith, w.low-is) in
          record {
            from = omega (arith, kept.from);
            some = omega (arith, c.loop-size-test.true);
            within = omega (arith, place, kept.within, c.loop-size-test.true);
            before = λ m more. earlier-at members c.args.deadline middle _ _ m place (omega (arith, kept.within, c.loop-size-test.true)) w.if-members-low.true;
            later = λ k m above inside. kept.later k m (omega (arith, place, above)) inside;
          }
      | else-members-low w ↦
          let place : c.loop-size.low + c.if-members-low.low ≡ c.loop-size.low = omega (arith, w.low-is) in
          record {
            from = omega (arith, kept.from);
            some = omega (arith, c.loop-size-test.true);
            within = omega (arith, place, kept.within, c.loop-size-test.true);
            before = λ m more. rw place (kept.before m (omega (arith, place, more)));
            later = λ k m above inside. later-from members c.args.deadline c.args.start middle _ c.requires.in_order (omega (arith, kept.from)) w.if-members-low.false k m (omega (arith, place, above)) inside;
          }
    ]
