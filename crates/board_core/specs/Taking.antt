-- One step on an opening, with an empty history (profile).
use Rattle.std.specs.Prelude.{[], ◌∷◌, Option, Result, Ok, Err, false}
use Rattle.board_terms.specs.declared.op.Actor.{Actor}
use Rattle.board_terms.specs.declared.op.Actor.TheVariants.{Hart, Clock}
use Rattle.board_terms.specs.declared.op.Op.{Op}
use Rattle.board_terms.specs.declared.reply.Refusal.{Refusal}
use Rattle.board_terms.specs.declared.reply.Reply.{Reply}
use Rattle.board_terms.specs.declared.reply.Reply.TheVariants.{Done}
use Rattle.board_core.specs.declared.opening.Taken.{Taken}
use Rattle.board_core.specs.Accesses.{used_by_actor}
use Rattle.board_core.specs.Cuts.{opening_of}
use Rattle.board_core.specs.History.{Event}
use Rattle.board_core.specs.Opening.{Opening}
use Rattle.board_core.specs.Refusals.{clock_refusals, first_that_holds, refusals}
use Rattle.board_core.specs.Replies.{answer_when, reply}

-- the refusal of a step, if it is refused
abbrev pub refusal_at : Opening → Actor → Op → Option Refusal
refusal_at o (Hart h) op = first_that_holds (refusals false o [] h op)
refusal_at o Clock op = first_that_holds (clock_refusals false o [] op)

-- the reply to a step that isn't refused
abbrev pub reply_at : Opening → Actor → Op → Reply
reply_at o (Hart h) op = reply o [] h op
reply_at o Clock op = Done

-- the event of a step with this reply
abbrev pub event_with : Opening → Actor → Op → Reply → Event
event_with o actor op
    reply = record { actor = actor; op = op; reply = reply; translation = used_by_actor o [] actor op }

-- the result of a step that gave this event and left this opening, or was refused
abbrev pub taken_in : Result Event Refusal → Opening → Result Taken Refusal
taken_in (Ok event) left = Ok (record { event = event; opening = left })
taken_in (Err refusal) left = Err refusal

-- the result of a step with this answer
abbrev pub step_with : Opening → Actor → Op → Result Reply Refusal → Result Taken Refusal
step_with o actor op (Ok reply) = let event = event_with o actor op reply in Ok
    (record { event = event; opening = opening_of o (event ∷ []) })
step_with o actor op (Err refusal) = Err refusal

-- The result of a step while the history has room: its event and the opening that it leaves, or the refusal.
abbrev pub step_from : Opening → Actor → Op → Result Taken Refusal
step_from o actor op = step_with o actor op (answer_when false o [] actor op)
