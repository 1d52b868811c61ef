-- The fences that have reached a hart, local and remote (SBI 8; Privileged 4.2.1; Zifencei).
use Rattle.std.specs.Prelude.{◌≡◌, ℕ, ◌+◌, ◌<◌, true, List, [], if◌then◌else◌, Option, Some, None, Ok}
use Rattle.hsm.specs.declared.hart.HartState.TheVariants.{Started}
use Rattle.sbi_abi.specs.declared.call.Call.TheVariants.{Hsm}
use Rattle.sbi_abi.specs.declared.call.hsm.HsmCall.TheVariants.{HartStop}
use Rattle.sbi_abi.specs.declared.call.Regs.{Regs}
use Rattle.sbi_abi.specs.Calls.{call_of}
use Rattle.tlb_model.specs.declared.fence.Flush.{Flush}
use Rattle.tlb_model.specs.declared.fence.Flush.TheVariants.{Words, Entries}
use Rattle.tlb_model.specs.Fences.{fence_of_address}
use Rattle.hart_mask.specs.Ids.{has}
use Rattle.rfence.specs.declared.opened.FenceCall.{FenceCall}
use Rattle.rfence.specs.Laws.{times_met, was_applied}
use Rattle.rfence.specs.Opening.{called_at}
use Rattle.rfence.specs.Turns.{is_asked}
use Rattle.board_terms.specs.declared.config.Config.{Config}
use Rattle.board_core.specs.Opening.{Opening}
use Rattle.board_terms.specs.declared.op.Actor.TheVariants.{Hart}
use Rattle.board_terms.specs.declared.op.Op.{Op}
use Rattle.board_terms.specs.declared.op.Op.TheVariants.{Ecall, FenceI, Poll, Sfence}
use Rattle.board_terms.specs.declared.reply.Reply.TheVariants.{Gone, Waiting}
use Rattle.board_core.specs.Fences.{Remote, is_asked_by, outstanding, remote_of, turn_of, turns, waiting}
use Rattle.board_core.specs.History.{Event}
use Rattle.board_terms.specs.Limits.{spaces_of}
use Rattle.board_core.specs.Resets.{reset_by}
use Rattle.board_core.specs.States.{state}
use Rattle.board_laws.specs.Lives.{live_entries, live_words}
use Rattle.board_laws.specs.Places.{IsAtPlace, past_at}

-- The operation as a local fence, if it is one: an SFENCE.VMA or a FENCE.I (Privileged 4.2.1; Zifencei).
abbrev pub own_fence : Config → Op → Option Flush
own_fence c (Sfence va asid) = Some (Entries (fence_of_address (spaces_of c) va asid))
own_fence c FenceI = Some Words
own_fence c op = None

-- The event at this place is a local fence by hart t.
pub record FencesItself (o : Opening) (past : List Event) (t place : ℕ) (flush : Flush) : Type 0 where
  pub event : Event
  pub happened : IsAtPlace o past place event
  pub by_hart : event.actor ≡ Hart t
  pub fences : own_fence o.config event.op ≡ Some flush

-- Hart x asked a fence of hart t at this place: by an accepted call whose hart list names t, while t was in an
-- interruptible state (SBI 8).
pub record Asks (o : Opening) (past : List Event) (x t place : ℕ) (flush : Flush) : Type 0 where
  pub event : Event
  pub happened : IsAtPlace o past place event
  pub by_hart : event.actor ≡ Hart x
  pub regs : Regs
  pub call : event.op ≡ Ecall regs
  pub accepted : event.reply ≡ Waiting
  pub remote : Remote
  pub fences : remote_of o.config (call_of regs) ≡ Some remote
  pub drops : remote.flush ≡ Ok flush
  pub asked : is_asked_by o (past_at o past place) remote.mask remote.base t ≡ true

-- The call that hart x made at this place succeeded: the hart polled later, and no reset dropped the call before (SBI
-- 10; profile).
pub record Succeeded (o : Opening) (past : List Event) (x place : ℕ) : Type 0 where
  pub end : ℕ
  pub later : place < end
  pub event : Event
  pub happened : IsAtPlace o past end event
  pub by_hart : event.actor ≡ Hart x
  pub poll : event.op ≡ Poll
  pub kept : (m : ℕ) (other : Event) → place < m → m < end → IsAtPlace o past m other → reset_by other.op other.reply ≡ None

-- The fence of this place has reached hart t: it is the hart's local fence, or a call that succeeded asked it of the
-- hart.
pub data Reached (o : Opening) (past : List Event) (t place : ℕ) (flush : Flush) : Type 0 where
  Itself : FencesItself o past t place flush → Reached o past t place flush
  ByCall : (x : ℕ) → Asks o past x t place flush → Succeeded o past x place → Reached o past t place flush

-- The fence of hart c's call that was open at the opening has reached hart t: the call asked the hart, and has
-- succeeded since.
pub record OpenedReached (o : Opening) (past : List Event) (c t : ℕ) (call : FenceCall Flush) : Type 0 where
  pub called : called_at o.fences c ≡ Some call
  pub asked : has call.asked t ≡ true
  pub succeeded : Succeeded o past c call.place

-- If the event at the place asks a fence of hart t, the fence was applied there once, or waits there once. If it
-- doesn't, no fence of that place was applied or waits there. A stop of t and a system reset apply what waits at t
-- (profile).
abbrev pub AppliedOnce : Opening → List Event → (t place : ℕ) → Event → Type 0
AppliedOnce o past t place event =
    times_met o.fences place (turns o past) t
    ≡ (if is_asked (turn_of o (past_at o past place) event.actor event.op event.reply) t then 1 else 0)

-- The same for the fence of a call that was open at the opening. It counts as applied before the opening at each hart
-- that it asked and at which it didn't wait at the opening.
abbrev pub OpenedOnce : Opening → List Event → (c t : ℕ) → FenceCall Flush → Type 0
OpenedOnce o past c t call =
    called_at o.fences c ≡ Some call
    → (if was_applied o.fences call t then 1 else 0) + times_met o.fences call.place (turns o past) t
    ≡ (if has call.asked t then 1 else 0)

-- By this event hart t stops (SBI 9.2).
pub record StopsHart (event : Event) (t : ℕ) : Type 0 where
  pub by_hart : event.actor ≡ Hart t
  pub regs : Regs
  pub call : event.op ≡ Ecall regs
  pub stop : call_of regs ≡ Hsm HartStop
  pub accepted : event.reply ≡ Gone

-- Nothing is live in the caches of hart t, and no fence waits there.
pub record LeavesNothing (o : Opening) (past : List Event) (t : ℕ) : Type 0 where
  pub entries : live_entries o past t ≡ []
  pub words : live_words o past t ≡ []
  pub waiting : waiting o past t ≡ []

-- Each hart inside a fence call is STARTED (SBI 8; that a call waits: profile).
abbrev pub CallsAreMadeStarted : Opening → List Event → Type 0
CallsAreMadeStarted o past = (h : ℕ) (harts : List ℕ) → outstanding o past h ≡ Some harts → state o past h ≡ Started
