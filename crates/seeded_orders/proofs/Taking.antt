-- What a step makes of a board.
use Rattle.std.proofs.Common.{◌≡◌, ◌∷◌, refl, sym, ap, ◌∙◌}
use Rattle.std.specs.Prelude.{Option, Some, None, Result, Ok, Err}
use Rattle.board_terms.specs.declared.op.Actor.{Actor}
use Rattle.board_terms.specs.declared.op.Op.{Op}
use Rattle.board_terms.specs.declared.reply.Refusal.{Refusal}
use Rattle.board_terms.specs.declared.reply.Reply.{Reply}
use Rattle.board_core.specs.Accesses.{used_by_actor}
use Rattle.board_core.specs.Course.{Course}
use Rattle.board_core.specs.History.{Event}
use Rattle.board_core.specs.Replies.{answer, recorded, stepped}
use Rattle.guest_programs.specs.declared.steps.Step.{Step}
use Rattle.seeded_orders.specs.Orders.{past_after, past_with}
use Rattle.guest_programs.specs.Steps.{actor_of, op_of, Task}

recorded-opening : (b : Course) (actor : Actor) (op : Op) (said : Result Reply Refusal) → (recorded b actor op said).opening ≡ b.opening
recorded-opening b actor op (Ok reply) = refl
recorded-opening b actor op (Err refusal) = refl

pub opening-kept : (b : Course) (actor : Actor) (op : Op) → (stepped b actor op).opening ≡ b.opening
opening-kept b actor op = recorded-opening b actor op (answer b.opening b.past actor op)

pub nothing-taken : (b : Course) (p : Task) (step : Step) (found : Option Op) → found ≡ op_of b.opening p b.past step → found ≡ None → b.past ≡ past_with b.opening p b.past (Some step)
nothing-taken b p step found is none = ap (λ (o : Option Op). past_after b.opening b.past (actor_of step) o) (sym none ∙ is)

pub past-taken : (b : Course) (p : Task) (step : Step) (actor : Actor) (op : Op) (found : Option Op) → found ≡ op_of b.opening p b.past step → found ≡ Some op → actor ≡ actor_of step
    → (stepped b actor op).past ≡ past_with b.opening p b.past (Some step)
past-taken b p step actor op found is some by =
    ap (λ (a : Actor). (stepped b a op).past) by ∙ ap (λ (o : Option Op). past_after b.opening b.past (actor_of step) o) (sym some ∙ is)

-- the event of an accepted step
abbrev pub event_of : Course → Actor → Op → Reply → Event
event_of b actor op reply = record { actor = actor; op = op; reply = reply; translation = used_by_actor b.opening b.past actor op }

pub accepted-past : (b : Course) (actor : Actor) (op : Op) (said : Result Reply Refusal) (reply : Reply) → said ≡ answer b.opening b.past actor op → said ≡ Ok reply
    → (stepped b actor op).past ≡ event_of b actor op reply ∷ b.past
accepted-past b actor op said reply is accepted = ap (λ (r : Result Reply Refusal). (recorded b actor op r).past) (sym is ∙ accepted)

pub refused-past : (b : Course) (actor : Actor) (op : Op) (said : Result Reply Refusal) (refusal : Refusal) → said ≡ answer b.opening b.past actor op → said ≡ Err refusal
    → (stepped b actor op).past ≡ b.past
refused-past b actor op said refusal is refused = ap (λ (r : Result Reply Refusal). (recorded b actor op r).past) (sym is ∙ refused)
