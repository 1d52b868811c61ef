-- A hart inside a fence call is STARTED.
use Rattle.std.proofs.Common.{◌≡◌, ℕ, ◌<◌, Bool, true, false, List, [], ◌∷◌, refl, sym, ap, ◌∙◌, Option, Some, None, Result, Ok, Err, inl, inr}
use Rattle.std.specs.Prelude.{if◌then◌else◌, ◌==◌, nat_le, not}
use Rattle.std.proofs.lemmas.Bool.{cases_Bool, eqb-true}
use Rattle.hsm.specs.declared.hart.HartState.{HartState}
use Rattle.hsm.specs.declared.hart.HartState.TheVariants as states
use Rattle.hsm.specs.States.{is_started, is_stopped}
use Rattle.rfence.specs.declared.opened.FenceCall.{FenceCall}
use Rattle.rfence.specs.Opening as fences
use Rattle.rfence.specs.Calls.{open_by, open_call}
use Rattle.rfence.specs.State.{in_call}
use Rattle.rfence.specs.Turns.{Turn}
use Rattle.sbi_abi.specs.declared.answer.Sbiret.{Sbiret}
use Rattle.sbi_abi.specs.declared.answer.SbiError.{SbiError}
use Rattle.sbi_abi.specs.declared.answer.SbiError.TheVariants.{InvalidParam, InvalidAddress, AlreadyAvailable}
use Rattle.sbi_abi.specs.declared.call.Call.{Call}
use Rattle.sbi_abi.specs.declared.call.Call.TheVariants.{Hsm, Srst}
use Rattle.sbi_abi.specs.declared.call.hsm.HsmCall.TheVariants.{HartStart, HartStop, HartSuspend}
use Rattle.sbi_abi.specs.declared.call.srst.SrstCall.TheVariants.{SystemReset}
use Rattle.sbi_abi.specs.Calls.{call_of}
use Rattle.sbi_abi.specs.Errors.{is_success}
use Rattle.tlb_model.specs.declared.fence.Flush.{Flush}
use Rattle.board_rules.specs.Opening.{Opening}
use Rattle.board_terms.specs.declared.op.Actor.{Actor}
use Rattle.board_terms.specs.declared.op.Actor.TheVariants.{Hart, Clock}
use Rattle.board_terms.specs.declared.op.Op.{Op}
use Rattle.board_terms.specs.declared.op.Op.TheVariants.{Ecall, Advance, Poll}
use Rattle.board_terms.specs.declared.reply.Reply.{Reply}
use Rattle.board_terms.specs.declared.reply.Reply.TheVariants as replies
use Rattle.board_rules.specs.Fences.{Remote, remote_of, turn_by, turn_by_call, turn_by_flush, turn_by_remote, turn_of, turns}
use Rattle.board_rules.specs.History.{Event}
use Rattle.board_terms.specs.Limits.{is_start_address}
use Rattle.board_rules.specs.Refusals.{first_that_holds, situation}
use Rattle.board_rules.specs.Calls.Hsm.{start_errors}
use Rattle.board_rules.specs.Replies.{IsLegal, answer, call_reply, unless}
use Rattle.board_rules.specs.States.{Move, One, move_by, move_by_call, move_of, moved_to, state}
use Rattle.board_rules.proofs.Rows.{running_parts}
use Rattle.std.proofs.lemmas.Bool.{leb-false}
use Rattle.std.specs.Prelude.{is_some}
use Rattle.board_terms.specs.declared.reply.Refusal.TheVariants as refusals
use Rattle.board_rules.specs.Refusals.{has_nothing_to_do, is_full, is_out_of_phase}
use Rattle.board_rules.specs.Replies.{refused_or, reply}
use Rattle.board_rules.specs.Resets.{is_off}

-- an operation that isn't refused is of a hart that is there, in its phase, and has something to do
pub record IsTaken (o : Opening) (past : List Event) (x : ℕ) (op : Op) (r : Reply) : Type 0 where
  pub inside : x < o.config.harts
  pub in_phase : is_out_of_phase op (situation o past x) ≡ false
  pub to_do : has_nothing_to_do op (situation o past x) ≡ false
  pub replied : reply o past x op ≡ r

pub taken : (o : Opening) (past : List Event) (x : ℕ) (op : Op) (r : Reply) → answer o past (Hart x) op ≡ Ok r → IsTaken o past x op r
taken o past x op r e = by_tests (is_off o past) (nat_le o.config.harts x) (is_out_of_phase op (situation o past x)) (has_nothing_to_do op (situation o past x)) (is_full o past) refl refl refl e
  where
    by_tests : (off missing out idle full : Bool) → nat_le o.config.harts x ≡ missing → is_out_of_phase op (situation o past x) ≡ out → has_nothing_to_do op (situation o past x) ≡ idle
        → refused_or (first_that_holds ((off, refusals.Off) ∷ (missing, refusals.WrongPhase) ∷ (out, refusals.WrongPhase) ∷ (idle, refusals.Nothing) ∷ (full, refusals.HistoryFull) ∷ []))
        (reply o past x op) ≡ Ok r
        → IsTaken o past x op r
    by_tests true missing out idle full there phase work e = cc
    by_tests false true out idle full there phase work e = cc
    by_tests false false true idle full there phase work e = cc
    by_tests false false false true full there phase work e = cc
    by_tests false false false false true there phase work e = cc
    by_tests false false false false false there phase work e = record { inside = leb-false o.config.harts x there; in_phase = phase; to_do = work; replied = cc }

-- a start that succeeds is of a STOPPED hart
pub starts-at-stopped : (o : Opening) (past : List Event) (t addr : ℕ) (answered : Sbiret)
    → replies.Ret (unless (first_that_holds (start_errors o.config (state o past) t addr)) 0) ≡ replies.Ret answered
    → is_success answered ≡ true → state o past t ≡ states.Stopped
starts-at-stopped o past t addr answered e ok = by_tests (nat_le o.config.harts t) (not (is_start_address o.config.pages addr)) (state o past t) e
  where
    fails : (error : SbiError) → replies.Ret (unless (Some error) 0) ≡ replies.Ret answered → is_success (unless (Some error) 0) ≡ false → ⊥
    fails error e failed =
        let same : unless (Some error) 0 ≡ answered = cc in
        let wrong : false ≡ true = sym failed ∙ ap is_success same ∙ ok in
        cc

    by_tests : (missing wrong : Bool) (s : HartState)
        → replies.Ret (unless (first_that_holds ((missing, InvalidParam) ∷ (wrong, InvalidAddress) ∷ (not (is_stopped s), AlreadyAvailable) ∷ [])) 0) ≡ replies.Ret answered
        → s ≡ states.Stopped
    by_tests true wrong s e = absurd (fails InvalidParam e refl)
    by_tests false true s e = absurd (fails InvalidAddress e refl)
    by_tests false false states.Started e = absurd (fails AlreadyAvailable e refl)
    by_tests false false states.Stopped e = refl
    by_tests false false states.StartPending e = absurd (fails AlreadyAvailable e refl)
    by_tests false false states.StopPending e = absurd (fails AlreadyAvailable e refl)
    by_tests false false states.Suspended e = absurd (fails AlreadyAvailable e refl)
    by_tests false false states.SuspendPending e = absurd (fails AlreadyAvailable e refl)
    by_tests false false states.ResumePending e = absurd (fails AlreadyAvailable e refl)

no-call : (opened : Option (FenceCall Flush)) (ids : List ℕ) → in_call opened ids ≡ None → opened ≡ None
no-call None ids e = refl
no-call (Some place) ids e = cc

module _ (o : Opening) (past : List Event) (before : (h : ℕ) (place : FenceCall Flush) → open_call o.fences (turns o past) h ≡ Some place → state o past h ≡ states.Started) where
  -- an event with this turn and this move keeps hart h STARTED while it is inside a call
  abbrev Keeps : ℕ → Turn Flush → Option Move → Type 0
  Keeps h turn move = (place : FenceCall Flush) → open_by (fences.place_after o.fences (turns o past)) turn h (open_call o.fences (turns o past) h) ≡ Some place
      → moved_to move h (state o past h) ≡ states.Started

  -- a hart that isn't inside a call is moved
  moved : (h y : ℕ) (place : FenceCall Flush) (s : HartState) → ((at : FenceCall Flush) → open_call o.fences (turns o past) y ≡ Some at → ⊥) → open_call o.fences (turns o past) h ≡ Some place
      → (if h == y then s else state o past h) ≡ states.Started
  moved h y place s outside inside = elim (cases_Bool (h == y)) [
    | inl same ↦ absurd (outside place (ap (open_call o.fences (turns o past)) (sym (eqb-true h y same)) ∙ inside))
    | inr other ↦ rw other (before h place inside)
  ]

  -- a hart that isn't STARTED isn't inside a call
  not-inside : (y : ℕ) → is_started (state o past y) ≡ false → (at : FenceCall Flush) → open_call o.fences (turns o past) y ≡ Some at → ⊥
  not-inside y other at inside = let wrong : true ≡ false = sym (ap is_started (before y at inside)) ∙ other in cc

  module _ (h x : ℕ) where
    module _ (started : state o past x ≡ states.Started) (outside : open_call o.fences (turns o past) x ≡ None) where
      no-call-of : (at : FenceCall Flush) → open_call o.fences (turns o past) x ≡ Some at → ⊥
      no-call-of at inside = let wrong : None ≡ Some at = sym outside ∙ inside in cc

      -- a hart that asks is STARTED
      remote-keeps : (remote : Option Remote) (r : Reply) → Keeps h (turn_by_remote o past x remote r) None
      remote-keeps (Some remote) replies.Waiting = by_flush remote.flush
        where
          by_flush : (flush : Result Flush SbiError) → Keeps h (turn_by_flush o past x remote.mask remote.base flush) None
          by_flush (Ok flush) = λ place e. elim (cases_Bool (x == h)) [
            | inl same ↦ ap (state o past) (sym (eqb-true x h same)) ∙ started
            | inr other ↦ before h place (rw other at e)
          ]
          by_flush (Err error) = before h
      remote-keeps remote r = before h

      call-keeps : (call : Call) (r : Reply) → call_reply o past x call ≡ r → Keeps h (turn_by_call o past x call r) (move_by_call o.config x call r)
      call-keeps (Hsm (HartStart t addr opaque)) (replies.Ret answered) replied = by_success (is_success answered) refl
        where
          by_success : (ok : Bool) → is_success answered ≡ ok → (place : FenceCall Flush) → open_call o.fences (turns o past) h ≡ Some place
              → moved_to (if ok then Some (One t states.StartPending) else None) h (state o past h) ≡ states.Started
          by_success true is place inside = moved h t place states.StartPending (not-inside t (ap is_started (starts-at-stopped o past t addr answered replied is))) inside
          by_success false is place inside = before h place inside
      call-keeps (Hsm HartStop) replies.Gone replied = λ place inside. moved h x place states.StopPending no-call-of inside
      call-keeps (Hsm (HartSuspend kind addr opaque)) replies.Gone replied = λ place inside. moved h x place states.SuspendPending no-call-of inside
      call-keeps (Hsm (HartSuspend kind addr opaque)) replies.Waiting replied = λ place inside. moved h x place states.SuspendPending no-call-of inside
      call-keeps (Srst (SystemReset (Ok reset))) replies.Gone replied = λ place e. absurd (let none = e in cc)
      call-keeps call r replied = remote-keeps (remote_of o.config call) r

    op-keeps : (op : Op) (r : Reply) → IsTaken o past x op r → Keeps h (turn_by o past x op r) (move_by o.config x op r)
    op-keeps (Ecall regs) r is =
        let running = running_parts (situation o past x) is.in_phase in
        call-keeps running.0 (no-call (open_call o.fences (turns o past) x) _ running.1) (call_of regs) r is.replied
    op-keeps Advance (replies.Entry addr hart opaque) is = λ place inside. moved h x place states.Started (not-inside x is.in_phase) inside
    op-keeps Advance (replies.Ret answered) is = λ place inside. moved h x place states.Started (not-inside x is.in_phase) inside
    op-keeps Advance (replies.Moved s) is = λ place inside. moved h x place s (not-inside x is.in_phase) inside
    op-keeps Poll r is = λ place e. elim (cases_Bool (x == h)) [
      | inl same ↦ absurd (let none : None ≡ Some place = rw same at e in cc)
      | inr other ↦ before h place (rw other at e)
    ]
    op-keeps op r is = before h

  keeps : (h : ℕ) (actor : Actor) (op : Op) (r : Reply) → answer o past actor op ≡ Ok r → Keeps h (turn_of o past actor op r) (move_of o.config actor op r)
  keeps h (Hart x) op r answered = op-keeps h x op r (taken o past x op r answered)
  keeps h Clock op r answered = before h

pub inside-started : (o : Opening) (past : List Event) → IsLegal o past → (h : ℕ) (place : FenceCall Flush) → open_call o.fences (turns o past) h ≡ Some place → state o past h ≡ states.Started
inside-started o [] legal h place e = legal.calls h (ap is_some e)
inside-started o (event ∷ past) legal h place e =
    keeps o past (inside-started o past legal.2) h event.actor event.op event.reply legal.0 place e
