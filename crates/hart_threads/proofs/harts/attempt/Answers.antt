use Rattle.std.proofs.Common.{◌≡◌, ◌+◌, ◌∷◌, length, ap, refl, subst, sym, ◌∙◌}
use Rattle.std.specs.Prelude.{reverse}
use Rattle.board_lock.specs.Receipts.{AcceptedCall, accepted_call}
use Rattle.board_lock.specs.Seats.{Sitting}
use Rattle.guest_programs.specs.declared.met.Met.{Met}
use Rattle.guest_programs.specs.Guests.{IsAt, Next, Rest}
use Rattle.guest_programs.specs.Met.{met_by_refusal}
use Rattle.hart_threads.specs.Inside.Works.{Goes, Task, task}
use Rattle.hart_threads.proofs.Steps.{looked, refused-going}
use Rattle.hart_threads.proofs.Working.{Tells, done-going, receipt-is}
use Rattle.hart_threads.proofs.harts.attempt.Goals as goal

pub returns-in-Ok-clause-going : goal.returns-in-Ok-clause-going
returns-in-Ok-clause-going g c =
    let t : Task = task g.K.Plan.lets g.K.Plan.heard g.K.Room.opening g.K.Plan.guests g.K.Plan.ticks in
    let rest : Rest = g.P.Guests.rest c.args.work.now.guests.now c.args.place.now in
    let rest' : Rest = g.P.Guests.rest c.args.work.now.guests.now c.guest_place_after.result in
    let tells : Tells g.K.Plan.guests c.args.op c.in-Ok.receipt.reply rest rest' = (λ past h e by asked answered is.
    subst (λ (guests : Next). IsAt rest' guests (e ∷ past) h) c.args.work.now.guided
    (c.guest_place_after.ensures past h e by asked (answered ∙ sym c.reply-reply.ensures) (subst (λ (guests : Next). IsAt rest guests past h) (sym c.args.work.now.guided) is))) in
    let r : AcceptedCall = c.in-Ok.receipt in
    let told : r ≡ accepted_call c.args.seat.now.actor c.args.seat.now.count (t.opening.places + length (reverse c.in-Ok.ensures.done.before)) c.args.op r.reply =
    receipt-is t c.args.seat.now c.call_and_view.new.seat c.args.op r.reply c.in-Ok.ensures.done r c.in-Ok.ensures.receipt.0 c.in-Ok.ensures.receipt.1 c.in-Ok.ensures.receipt.2 refl c.in-Ok.ensures.place in
    let heard = subst t.heard told search in
    done-going t c.args.seat.now c.call_and_view.new.seat c.args.op c.in-Ok.receipt.reply c.in-Ok.ensures.done rest rest' c.requires.going c.requires.turn c.if-not-is_let.ensures heard tells
    c.in-Ok.ensures.actor c.in-Ok.ensures.accepted

pub returns-in-Err : goal.returns-in-Err
returns-in-Err g c =
    let t : Task = task g.K.Plan.lets g.K.Plan.heard g.K.Room.opening g.K.Plan.guests g.K.Plan.ticks in
    let e = c.in-Err.ensures in
    let rest : Rest = g.P.Guests.rest c.args.work.now.guests.now c.args.place.now in
    let going = refused-going t c.args.seat.now c.call_and_view.new.seat rest c.args.op c.in-Err.refusal c.requires.going c.requires.turn e.refused e.later e.refusal in
    let seen = looked t c.call_and_view.new.seat c.view.new.seat rest (met_by_refusal c.in-Err.refusal) c.view.ensures.seat c.view.ensures.later going in
    record {
      actor = ap (λ (s : Sitting). s.actor) c.view.ensures.seat ∙ e.actor;
      going = subst (λ (m : Met). Goes t c.view.new.seat rest m) (sym c.by_refusal.ensures) seen;
      view = c.view.ensures.view;
    }
