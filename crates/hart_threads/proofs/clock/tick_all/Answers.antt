use Rattle.std.proofs.Common.{◌≡◌, ◌+◌, length, ap, refl, sym, subst, ◌∙◌}
use Rattle.std.specs.Prelude.{reverse}
use Rattle.board_lock.specs.Receipts.{AcceptedCall, accepted_call}
use Rattle.board_lock.specs.Seats.{Sitting}
use Rattle.guest_programs.specs.declared.met.Met.{Met}
use Rattle.hart_threads.specs.Inside.Works.{Task, WorkedAt, task}
use Rattle.hart_threads.proofs.Steps.{clock-done, clock-refused}
use Rattle.hart_threads.proofs.Working.{receipt-is}
use Rattle.hart_threads.proofs.Ticking.{first-of, next-tick, one-more}
use Rattle.hart_threads.proofs.clock.tick_all.Goals as goal

pub returns-in-Err : goal.returns-in-Err
returns-in-Err g c =
    let t : Task = task g.K.Plan.lets g.K.Plan.heard g.K.Room.opening g.K.Plan.guests g.K.Plan.ticks in
    let e = c.in-Err.ensures in
    let program = c.args.work.now.ticks.now in
    let next = next-tick g.K.Plan.ticks program c.loop-n.seat.count c.loop-n.n-index c.args.work.now.planned c.loop-n.invariant.2 c.loop-n-test.true in
    record {
      actor = e.actor ∙ c.loop-n.invariant.0;
      ticks = first-of c.loop-n.seat.ops c.call.new.seat.ops program g.K.Plan.ticks c.loop-n.n-index c.args.work.now.planned c.loop-n-test.true c.loop-n.invariant.1
          (ap (λ (s : Sitting). s.ops) e.refused);
      worked = subst (λ (m : Met). WorkedAt t c.call.new.seat m) (sym c.by_refusal.ensures)
          (clock-refused t c.loop-n.seat c.call.new.seat _ c.loop-n.invariant.0 c.loop-n.invariant.3 next e.refused e.later c.in-Err.refusal e.refusal);
    }

pub loop-n-preserved : goal.loop-n-preserved
loop-n-preserved g c =
    let t : Task = task g.K.Plan.lets g.K.Plan.heard g.K.Room.opening g.K.Plan.guests g.K.Plan.ticks in
    let e = c.in-Ok.ensures in
    let program = c.args.work.now.ticks.now in
    let next = next-tick g.K.Plan.ticks program c.loop-n.seat.count c.loop-n.n-index c.args.work.now.planned c.loop-n.invariant.2 c.loop-n-test.true in
    let r : AcceptedCall = c.in-Ok.receipt in
    let told : r ≡ accepted_call c.loop-n.seat.actor c.loop-n.seat.count (t.opening.places + length (reverse e.done.before)) _ r.reply =
    receipt-is t c.loop-n.seat c.call.new.seat _ r.reply e.done r e.receipt.0 e.receipt.1 e.receipt.2 refl e.place in
    let heard = subst t.heard told search in (
      e.actor ∙ c.loop-n.invariant.0,
      one-more c.loop-n.seat.ops c.call.new.seat.ops program g.K.Plan.ticks c.loop-n.n-index c.args.work.now.planned c.loop-n-test.true c.loop-n.invariant.1 e.ops,
      e.accepted ∙ ap (λ n. n + 1) c.loop-n.invariant.2,
      clock-done t c.loop-n.seat c.call.new.seat _ c.in-Ok.receipt.reply c.loop-n.invariant.0 c.loop-n.invariant.3 next c.if-not-is_let.ensures e.done heard e.accepted,
    )
