-- What a system reset is, and that it ends each fence call.
use Rattle.std.proofs.Common.{◌≡◌, ℕ, Bool, true, false, List, [], ◌∷◌, refl, Some, None, Ok, Err}
use Rattle.sbi_abi.specs.declared.call.Call.{Call}
use Rattle.sbi_abi.specs.declared.call.Call.TheVariants.{Srst}
use Rattle.sbi_abi.specs.declared.call.srst.SrstCall.TheVariants.{SystemReset}
use Rattle.sbi_abi.specs.declared.call.Regs.{Regs}
use Rattle.sbi_abi.specs.declared.reset.Reset.{Reset}
use Rattle.sbi_abi.specs.Calls.{call_of}
use Rattle.rfence.specs.Turns as turns_of
use Rattle.board_rules.specs.Opening.{Opening}
use Rattle.board_terms.specs.declared.op.Actor.{Actor}
use Rattle.board_terms.specs.declared.op.Actor.TheVariants.{Hart, Clock}
use Rattle.board_terms.specs.declared.op.Op.{Op}
use Rattle.board_terms.specs.declared.op.Op.TheVariants.{Ecall}
use Rattle.board_terms.specs.declared.reply.Refusal.TheVariants.{Off, WrongPhase}
use Rattle.board_terms.specs.declared.reply.Reply.{Reply}
use Rattle.board_terms.specs.declared.reply.Reply.TheVariants.{Done, Gone}
use Rattle.board_rules.specs.Fences.{outstanding, turn_of}
use Rattle.board_rules.specs.History.{Event}
use Rattle.board_rules.specs.Refusals.{first_that_holds}
use Rattle.board_rules.specs.Replies.{answer, refused_or}
use Rattle.board_rules.specs.Resets.{is_off, reset_by, reset_by_call}

-- a reset is a hart's call that doesn't return
pub record IsReset (event : Event) (reset : Reset) : Type 0 where
  pub hart : ℕ
  pub by_hart : event.actor ≡ Hart hart
  pub regs : Regs
  pub call : event.op ≡ Ecall regs
  pub asks : call_of regs ≡ Srst (SystemReset (Ok reset))
  pub accepted : event.reply ≡ Gone

record Calls (op : Op) (r : Reply) (reset : Reset) : Type 0 where
  regs : Regs
  call : op ≡ Ecall regs
  asks : call_of regs ≡ Srst (SystemReset (Ok reset))
  accepted : r ≡ Gone

call-resets : (call : Call) (r : Reply) (reset : Reset) → reset_by_call call r ≡ Some reset → (call ≡ Srst (SystemReset (Ok reset))) × (r ≡ Gone)
call-resets (Srst (SystemReset (Ok asked))) Gone reset e = (cc, refl)
call-resets call r reset e = cc

op-resets : (op : Op) (r : Reply) (reset : Reset) → reset_by op r ≡ Some reset → Calls op r reset
op-resets (Ecall regs) r reset e =
    let parts = call-resets (call_of regs) r reset e in
    record { regs = regs; call = refl; asks = parts.0; accepted = parts.1 }
op-resets op r reset e = cc

-- the clock makes no call
clock-refuses : (o : Opening) (past : List Event) (regs : Regs) (r : Reply) → answer o past Clock (Ecall regs) ≡ Ok r → ⊥
clock-refuses o past regs r e = by_power (is_off o past) e
  where
    by_power : (off : Bool) → refused_or (first_that_holds ((off, Off) ∷ (true, WrongPhase) ∷ [])) Done ≡ Ok r → ⊥
    by_power true e = cc
    by_power false e = cc

pub is-reset : (o : Opening) (past : List Event) (event : Event) (reset : Reset) → answer o past event.actor event.op ≡ Ok event.reply
    → reset_by event.op event.reply ≡ Some reset → IsReset event reset
is-reset o past event reset answered resets = by_actor event.actor refl
  where
    is : Calls event.op event.reply reset
    is = op-resets event.op event.reply reset resets

    by_actor : (actor : Actor) → event.actor ≡ actor → IsReset event reset
    by_actor (Hart x) by = record { hart = x; by_hart = by; regs = is.regs; call = is.call; asks = is.asks; accepted = is.accepted }
    by_actor Clock by = absurd (clock-refuses o past is.regs event.reply (rw (by, is.call) at answered))

pub off-refuses : (o : Opening) (past : List Event) → is_off o past ≡ true → (actor : Actor) (op : Op) → answer o past actor op ≡ Err Off
off-refuses o past off (Hart h) op = rw off refl
off-refuses o past off Clock op = rw off refl

module _ (o : Opening) (event : Event) (past : List Event) (reset : Reset) (is : IsReset event reset) where
  pub reset-turn : turn_of o past event.actor event.op event.reply ≡ turns_of.Reset
  reset-turn = rw (is.by_hart, is.call, is.accepted, is.asks) refl

  -- no hart is inside a fence call any more
  pub reset-ends : (h : ℕ) → outstanding o (event ∷ past) h ≡ None
  reset-ends h = rw reset-turn refl
