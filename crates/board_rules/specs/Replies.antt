-- The answers of steps: a reply (SBI 3 to 10; Privileged 4), or a refusal (profile).
use Rattle.std.specs.Prelude.{◌≡◌, ℕ, List, [], ◌∷◌, Bool, Option, Some, None, Result, Ok, Err}
use Rattle.amo.specs.Amos.{amo_size}
use Rattle.amo.specs.Parts.{word_at}
use Rattle.sbi_abi.specs.declared.call.Call.{Call}
use Rattle.sbi_abi.specs.Calls.{call_of}
use Rattle.hart_access.specs.declared.accesses.Access.TheVariants as accesses
use Rattle.hsm.specs.declared.hart.HartState.{HartState}
use Rattle.hsm.specs.declared.hart.HartState.TheVariants as states
use Rattle.hsm.specs.declared.hart.EntryPoint.{EntryPoint}
use Rattle.board_rules.specs.Opening.{IsOpening, Opening}
use Rattle.board_terms.specs.declared.op.Actor.{Actor}
use Rattle.board_terms.specs.declared.op.Actor.TheVariants.{Hart, Clock}
use Rattle.board_rules.specs.History.{Event}
use Rattle.board_terms.specs.declared.op.Op.{Op}
use Rattle.board_terms.specs.declared.op.Op.TheVariants.{Ecall, Load, Store, Fetch, Amo, WriteSatp, WriteSie, WriteSstatusSie, ReadSip, ClearSsip, Wfi, Sfence, FenceI, Poll, Serve, Advance, Tick}
use Rattle.board_terms.specs.declared.reply.Refusal.{Refusal}
use Rattle.board_terms.specs.declared.reply.Reply.{Reply}
use Rattle.board_terms.specs.declared.reply.Reply.TheVariants.{Ret, Entry, Value, Served, Moved, Done}
use Rattle.board_rules.specs.Accesses.{access_reply, used_by_actor}
use Rattle.board_rules.specs.Calls.{reply_to}
use Rattle.board_rules.specs.Returns.{as_reply}
use Rattle.board_rules.specs.Course.{Course}
use Rattle.board_rules.specs.Csrs.{interrupt_bits, sstatus_sie}
use Rattle.board_rules.specs.Interrupts.{ssip, stip}
use Rattle.board_rules.specs.Refusals.{clock_refusals, first_that_holds, is_full, refusals}
pub use Rattle.board_rules.specs.Returns.{failure, success, unless}
use Rattle.board_rules.specs.Starts.{Start, last_start}
use Rattle.board_rules.specs.States.{state}
use Rattle.board_rules.specs.Suspends.{resume_point}

-- The reply to a call by hart x.
abbrev pub call_reply : Opening → List Event → (x : ℕ) → Call → Reply
call_reply o past x call = as_reply (reply_to o.config (sstatus_sie o past x) (state o past) call)

-- The reply at the end of a suspend: an entry at the suspend's entry point, or the return of its call (SBI 9.4).
abbrev pub resume_reply : (x : ℕ) → Option EntryPoint → Reply
resume_reply x (Some resume) = Entry resume.addr x resume.opaque
resume_reply x None = Ret (success 0)

-- The reply to the Advance of hart x, by its state, its last start, and its last suspend's entry point. An entry has
-- the address, the hart's id and the opaque value (SBI 9.1, 9.4). A STARTED or STOPPED hart is refused before.
abbrev pub advance_reply : (x : ℕ) → HartState → Start → (resume : Option EntryPoint) → Reply
advance_reply x states.StartPending start resume = Entry start.addr x start.opaque
advance_reply x states.StopPending start resume = Moved states.Stopped
advance_reply x states.SuspendPending start resume = Moved states.Suspended
advance_reply x states.Suspended start resume = Moved states.ResumePending
advance_reply x states.ResumePending start resume = resume_reply x resume
advance_reply x s start resume = Moved s

-- The reply to an operation of hart x that isn't refused.
abbrev pub reply : Opening → List Event → (x : ℕ) → Op → Reply
reply o past x (Ecall regs) = call_reply o past x (call_of regs)
reply o past x (Load va) = access_reply o past x va accesses.Load
reply o past x (Store va value) = access_reply o past x va (accesses.Store value)
reply o past x (Fetch va) = access_reply o past x va accesses.Fetch
reply o past x (Amo at amo) = access_reply o past x (word_at (amo_size amo) at) (accesses.Amo at amo)
reply o past x (WriteSatp value) = Done
reply o past x (WriteSie value) = Done
reply o past x (WriteSstatusSie value) = Done
reply o past x ReadSip = Value (interrupt_bits (ssip o past x) (stip o past x))
reply o past x ClearSsip = Done
reply o past x Wfi = Done
reply o past x (Sfence va asid) = Done
reply o past x FenceI = Done
reply o past x Poll = Ret (success 0)
reply o past x Serve = Served
reply o past x Advance = advance_reply x (state o past x) (last_start o past x) (resume_point o past x)
reply o past x (Tick n) = Done

abbrev pub refused_or : Option Refusal → Reply → Result Reply Refusal
refused_or (Some refusal) reply = Err refusal
refused_or None reply = Ok reply

-- The answer of a step, given whether the history is full: the first refusal that applies, else the reply.
abbrev pub answer_when : (is_full : Bool) → Opening → List Event → Actor → Op → Result Reply Refusal
answer_when is_full o past (Hart h) op = refused_or (first_that_holds (refusals is_full o past h op))
    (reply o past h op)
answer_when is_full o past Clock op = refused_or (first_that_holds (clock_refusals is_full o past op)) Done

-- The answer of a step.
abbrev pub answer : Opening → List Event → Actor → Op → Result Reply Refusal
answer o past actor op = answer_when (is_full o past) o past actor op

-- A legal history: the opening is consistent (`IsOpening`), and each event has the reply that the rules give after the
-- events before it, and the entry that it then used.
abbrev pub IsLegal : Opening → List Event → Type 0
IsLegal o [] = IsOpening o
IsLegal o (event ∷ past) =
    (answer o past event.actor event.op ≡ Ok event.reply)
    × (event.translation ≡ used_by_actor o past event.actor event.op)
    × IsLegal o past

abbrev pub recorded : Course → Actor → Op → Result Reply Refusal → Course
recorded b actor op (Ok reply) = record {
  opening = b.opening;
  past = record { actor = actor; op = op; reply = reply; translation = used_by_actor b.opening b.past actor op }
      ∷ b.past;
}
recorded b actor op (Err refusal) = b

-- The course after a step: one more event if it is accepted, the same course if it is refused.
abbrev pub stepped : Course → Actor → Op → Course
stepped b actor op = recorded b actor op (answer b.opening b.past actor op)
