-- Remote fences: what each event means for them, the fences that wait at harts, and the harts that calls wait for (SBI
-- 8).
use Rattle.std.specs.Prelude.{ℕ, List, [], ◌∷◌, Bool, map, Option, Some, None, Result, Ok, Err}
use Rattle.sbi_abi.specs.declared.answer.SbiError.{SbiError}
use Rattle.sbi_abi.specs.declared.call.Call.{Call}
use Rattle.sbi_abi.specs.declared.call.Call.TheVariants.{Hsm, Rfence, Srst}
use Rattle.sbi_abi.specs.Calls.{call_of}
use Rattle.fence_queue.specs.declared.request.Request.{Request}
use Rattle.rfence.specs.Calls as calls
use Rattle.rfence.specs.Opening as opened
use Rattle.rfence.specs.State.{in_call}
use Rattle.rfence.specs.Turns.{Turn, Ask, Own, Serve, Poll, Quiet}
use Rattle.rfence.specs.Waiting as queues
use Rattle.tlb_model.specs.declared.fence.Flush.{Flush}
use Rattle.tlb_model.specs.declared.fence.Flush.TheVariants.{Words, Entries}
use Rattle.tlb_model.specs.Fences.{fence_of_address}
use Rattle.board_terms.specs.declared.config.Config.{Config}
use Rattle.board_rules.specs.Opening.{Opening}
use Rattle.board_terms.specs.declared.op.Actor.{Actor}
use Rattle.board_terms.specs.declared.op.Actor.TheVariants.{Hart, Clock}
use Rattle.board_terms.specs.declared.op.Op.{Op}
use Rattle.board_terms.specs.declared.op.Op.TheVariants as ops
use Rattle.board_terms.specs.declared.reply.Reply.{Reply}
use Rattle.board_terms.specs.declared.reply.Reply.TheVariants as replies
use Rattle.board_rules.specs.declared.phase.Phase.{Phase}
use Rattle.board_rules.specs.declared.phase.Phase.TheVariants.{Outside, Inside}
use Rattle.board_rules.specs.History.{Event}
use Rattle.board_rules.specs.Calls.Hsm.{turn_by_hsm}
pub use Rattle.board_rules.specs.Calls.Rfence.{Remote}
use Rattle.board_rules.specs.Calls.Rfence.{remote_by_rfence}
use Rattle.board_rules.specs.Calls.Srst.{turn_by_srst}
use Rattle.board_terms.specs.Limits.{spaces_of}
use Rattle.board_rules.specs.States.{state}
use Rattle.board_rules.specs.Targets.{is_reached}

-- The call as a remote fence, if it is one.
abbrev pub remote_of : Config → Call → Option Remote
remote_of c (Rfence call) = Some (remote_by_rfence c call)
remote_of c call = None

module _ (o : Opening) (past : List Event) where
  -- Whether a fence is asked of hart t: the hart list names it, and it is in an interruptible state (SBI 8; that harts
  -- in other states are skipped: profile).
  abbrev pub is_asked_by : (mask base : ℕ) → ℕ → Bool
  is_asked_by mask base t = is_reached o.config (state o past) mask base t

  abbrev pub turn_by_flush : (x mask base : ℕ) → Result Flush SbiError → Turn Flush
  turn_by_flush x mask base (Ok flush) = Ask x (is_asked_by mask base) flush
  turn_by_flush x mask base (Err error) = Quiet

  -- A remote fence without an error waits inside its call.
  abbrev pub turn_by_remote : (x : ℕ) → Option Remote → Reply → Turn Flush
  turn_by_remote x (Some remote) replies.Waiting = turn_by_flush x remote.mask remote.base remote.flush
  turn_by_remote x remote reply = Quiet

  abbrev pub turn_by_call : (x : ℕ) → Call → Reply → Turn Flush
  turn_by_call x (Hsm call) reply = turn_by_hsm x call reply
  turn_by_call x (Srst call) reply = turn_by_srst call reply
  turn_by_call x call reply = turn_by_remote x (remote_of o.config call) reply

  -- What an operation of hart x means for fences (SBI 8; Privileged 4.2.1; Zifencei).
  abbrev pub turn_by : (x : ℕ) → Op → Reply → Turn Flush
  turn_by x (ops.Ecall regs) reply = turn_by_call x (call_of regs) reply
  turn_by x (ops.Sfence va asid) reply = Own x (Entries (fence_of_address (spaces_of o.config) va asid))
  turn_by x ops.FenceI reply = Own x Words
  turn_by x ops.Serve reply = Serve x
  turn_by x ops.Poll reply = Poll x
  turn_by x op reply = Quiet

  -- an actor's operation as a turn; the clock's concerns no fence
  abbrev pub turn_of : Actor → Op → Reply → Turn Flush
  turn_of (Hart x) op reply = turn_by x op reply
  turn_of Clock op reply = Quiet

-- The turns of the events since the opening, newest first: one for each event.
abbrev pub turns : Opening → List Event → List (Turn Flush)
turns o [] = []
turns o (event ∷ past) = turn_of o past event.actor event.op event.reply ∷ turns o past

-- whether a hart is inside a fence call, from the harts that its call waits for
abbrev pub phase_by : Option (List ℕ) → Phase
phase_by None = Outside
phase_by (Some harts) = Inside

module _ (o : Opening) (past : List Event) where
  -- The fences that wait at a hart, in the order in which it serves them, each with its caller and what it drops.
  abbrev pub waiting : ℕ → List (Request Flush)
  waiting t = map opened.kept (queues.waiting o.fences (turns o past) t)

  -- The ids of the harts that a hart's fence call waits for, ascending. None: it is in no call.
  abbrev pub outstanding : ℕ → Option (List ℕ)
  outstanding h = in_call (calls.open_call o.fences (turns o past) h)
      (calls.outstanding o.fences o.config.harts (turns o past) h)

  -- Whether a hart is inside a fence call (SBI 8; that a call waits: profile).
  abbrev pub phase : ℕ → Phase
  phase h = phase_by (outstanding h)
