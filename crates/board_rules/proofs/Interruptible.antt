-- A hart at which fences wait is in an interruptible state.
use Rattle.std.proofs.Common.{◌≡◌, ℕ, ◌<◌, Bool, true, false, List, [], ◌∷◌, drop, length, refl, sym, ap, ◌∙◌, arith, Option, Some, None, Result, Ok, Err}
use Rattle.std.specs.Prelude.{if◌then◌else◌, ◌==◌, ◌&&◌, not}
use Rattle.std.proofs.lemmas.Bool.{and_parts, both_ways, eq-eqb, eqb-true}
use Rattle.std.proofs.lemmas.List.{length-drop}
use Rattle.hsm.specs.declared.hart.HartState.{HartState}
use Rattle.hsm.specs.declared.hart.HartState.TheVariants as states
use Rattle.hsm.specs.declared.hart.EntryPoint.{EntryPoint}
use Rattle.hsm.specs.States.{is_interruptible}
use Rattle.hart_mask.specs.HartList.{targets_of}
use Rattle.rfence.specs.Opening as fences
use Rattle.rfence.specs.Right.{IsRight}
use Rattle.rfence.specs.Turns.{Turn}
use Rattle.rfence.specs.Waiting as queues
use Rattle.rfence.specs.Opening.{Asked}
use Rattle.rfence.specs.Waiting.{added}
use Rattle.rfence.proofs.Waits.{waited, waiting-more}
use Rattle.sbi_abi.specs.declared.answer.SbiError.{SbiError}
use Rattle.sbi_abi.specs.declared.call.Call.{Call}
use Rattle.sbi_abi.specs.declared.call.Call.TheVariants.{Hsm, Srst}
use Rattle.sbi_abi.specs.declared.call.hsm.HsmCall.TheVariants.{HartStart, HartStop, HartSuspend}
use Rattle.sbi_abi.specs.declared.call.srst.SrstCall.TheVariants.{SystemReset}
use Rattle.sbi_abi.specs.Calls.{call_of}
use Rattle.sbi_abi.specs.Errors.{is_success}
use Rattle.tlb_model.specs.declared.fence.Flush.{Flush}
use Rattle.board_rules.specs.Opening.{Opening}
use Rattle.board_terms.specs.declared.op.Actor.{Actor}
use Rattle.board_terms.specs.declared.op.Actor.TheVariants.{Hart, Clock}
use Rattle.board_terms.specs.declared.op.Op.{Op}
use Rattle.board_terms.specs.declared.op.Op.TheVariants as ops
use Rattle.board_terms.specs.declared.reply.Reply.{Reply}
use Rattle.board_terms.specs.declared.reply.Reply.TheVariants as replies
use Rattle.board_rules.specs.Fences.{Remote, is_asked_by, remote_of, turn_by, turn_by_call, turn_by_flush, turn_by_remote, turn_of, turns}
use Rattle.board_rules.specs.History.{Event}
use Rattle.board_rules.specs.Targets.{is_target}
use Rattle.board_rules.specs.Replies.{IsLegal, advance_reply, answer, call_reply}
use Rattle.board_rules.specs.Starts.{Start, last_start}
use Rattle.board_rules.specs.States.{Move, One, move_by, move_by_call, move_of, moved_to, state}
use Rattle.board_rules.specs.Suspends.{resume_point}
use Rattle.board_rules.proofs.InCalls.{IsTaken, starts-at-stopped, taken}

-- an Advance of a hart in an interruptible state brings it to one
advances : (x : ℕ) (now s : HartState) (start : Start) (resume : Option EntryPoint) → advance_reply x now start resume ≡ replies.Moved s → is_interruptible now ≡ true → is_interruptible s ≡ true
advances x states.Started s start resume replied can = let same : states.Started ≡ s = cc in ap is_interruptible (sym same)
advances x states.Stopped s start resume replied can = cc
advances x states.StartPending s start resume replied can = cc
advances x states.StopPending s start resume replied can = cc
advances x states.SuspendPending s start resume replied can = let same : states.Suspended ≡ s = cc in ap is_interruptible (sym same)
advances x states.Suspended s start resume replied can = let same : states.ResumePending ≡ s = cc in ap is_interruptible (sym same)
advances x states.ResumePending s start None replied can = cc
advances x states.ResumePending s start (Some resume) replied can = cc

module _ (o : Opening) (past : List Event) (right : IsRight o.fences o.config.harts (turns o past))
    (before : (h : ℕ) → 0 < length (queues.waiting o.fences (turns o past) h) → is_interruptible (state o past h) ≡ true) where
  -- an event with this turn and this move keeps hart h interruptible while fences wait there
  abbrev Keeps : ℕ → Turn Flush → Option Move → Type 0
  Keeps h turn move = 0 < length (waited (queues.waiting o.fences (turns o past) h) (fences.place_after o.fences (turns o past)) turn h) → is_interruptible (moved_to move h (state o past h)) ≡ true

  -- a hart that is moved into an interruptible state
  moved-can : (h t : ℕ) (s : HartState) → is_interruptible s ≡ true → 0 < length (queues.waiting o.fences (turns o past) h) → is_interruptible (moved_to (Some (One t s)) h (state o past h)) ≡ true
  moved-can h t s can some = by_hart (h == t)
    where
      by_hart : (own : Bool) → is_interruptible (if own then s else state o past h) ≡ true
      by_hart true = can
      by_hart false = before h some

  module _ (h x : ℕ) where
    -- a hart of which a fence is asked is in an interruptible state
    remote-keeps : (remote : Option Remote) (r : Reply) → Keeps h (turn_by_remote o past x remote r) None
    remote-keeps (Some remote) replies.Waiting some = by_flush remote.flush some
      where
        by_asked : (own asked : Bool) (place : ℕ) (flush : Flush) → is_asked_by o past remote.mask remote.base h ≡ asked
            → 0 < length (added (queues.waiting o.fences (turns o past) h) (if not own && asked then Some (record { place = place; from = x; flush = flush }) else None))
            → is_interruptible (state o past h) ≡ true
        by_asked own true place flush is some = (and_parts (is_target (targets_of remote.mask remote.base o.config.harts) h) (is_interruptible (state o past h)) is).1
        by_asked true false place flush is some = before h some
        by_asked false false place flush is some = before h some

        by_flush : (flush : Result Flush SbiError) → Keeps h (turn_by_flush o past x remote.mask remote.base flush) None
        by_flush (Ok flush) some = by_asked (x == h) (is_asked_by o past remote.mask remote.base h) (fences.place_after o.fences (turns o past)) flush refl some
        by_flush (Err error) some = before h some
    remote-keeps remote r some = before h some

    call-keeps : (call : Call) (r : Reply) → call_reply o past x call ≡ r → Keeps h (turn_by_call o past x call r) (move_by_call o.config x call r)
    call-keeps (Hsm (HartStart t addr opaque)) (replies.Ret answered) replied some = by_success (is_success answered) refl
      where
        stopped : is_success answered ≡ true → h ≡ t → is_interruptible (state o past h) ≡ true → ⊥
        stopped ok same can =
            both_ways (is_interruptible (state o past t)) (ap is_interruptible (starts-at-stopped o past t addr answered replied ok)) (ap (λ i. is_interruptible (state o past i)) (sym same) ∙ can)

        by_success : (ok : Bool) → is_success answered ≡ ok → is_interruptible (moved_to (if ok then Some (One t states.StartPending) else None) h (state o past h)) ≡ true
        by_success true is = by_hart (h == t) refl
          where
            by_hart : (own : Bool) → (h == t) ≡ own → is_interruptible (if own then states.StartPending else state o past h) ≡ true
            by_hart true same = absurd (stopped is (eqb-true h t same) (before h some))
            by_hart false other = before h some
        by_success false is = before h some
    call-keeps (Hsm HartStop) replies.Gone replied some = by_hart (h == x) refl some
      where
        by_hart : (own : Bool) → (h == x) ≡ own → 0 < length (if x == h then [] else queues.waiting o.fences (turns o past) h)
            → is_interruptible (if own then states.StopPending else state o past h) ≡ true
        by_hart true same some = absurd (let here = eqb-true h x same in none-left here some)
          where
            none-left : h ≡ x → 0 < length (if x == h then [] else queues.waiting o.fences (turns o past) h) → ⊥
            none-left same some = let gone = rw (eq-eqb x h (sym same)) at some in absurd (omega arith)
        by_hart false other some = before h (fewer (x == h) some)
          where
            fewer : (own : Bool) → 0 < length (if own then [] else queues.waiting o.fences (turns o past) h) → 0 < length (queues.waiting o.fences (turns o past) h)
            fewer true some = absurd (omega arith)
            fewer false some = some
    call-keeps (Hsm (HartSuspend kind addr opaque)) replies.Gone replied some = moved-can h x states.SuspendPending refl some
    call-keeps (Hsm (HartSuspend kind addr opaque)) replies.Waiting replied some = moved-can h x states.SuspendPending refl some
    call-keeps (Srst (SystemReset (Ok reset))) replies.Gone replied some = absurd (omega arith)
    call-keeps call r replied some = remote-keeps (remote_of o.config call) r some

    op-keeps : (op : Op) (r : Reply) → IsTaken o past x op r → Keeps h (turn_by o past x op r) (move_by o.config x op r)
    op-keeps (ops.Ecall regs) r is some = call-keeps (call_of regs) r is.replied some
    op-keeps ops.Advance (replies.Entry addr hart opaque) is some = moved-can h x states.Started refl some
    op-keeps ops.Advance (replies.Ret answered) is some = moved-can h x states.Started refl some
    op-keeps ops.Advance (replies.Moved s) is some = by_hart (h == x) refl
      where
        by_hart : (own : Bool) → (h == x) ≡ own → is_interruptible (if own then s else state o past h) ≡ true
        by_hart true same =
            let can : is_interruptible (state o past x) ≡ true = ap (λ t. is_interruptible (state o past t)) (sym (eqb-true h x same)) ∙ before h some in
            advances x (state o past x) s (last_start o past x) (resume_point o past x) is.replied can
        by_hart false other = before h some
    op-keeps ops.Serve r is some = before h (fewer (x == h) some)
      where
        fewer : (own : Bool) → 0 < length (if own then drop 1 (queues.waiting o.fences (turns o past) h) else queues.waiting o.fences (turns o past) h)
            → 0 < length (queues.waiting o.fences (turns o past) h)
        fewer true some = omega (arith, some, length-drop 1 (queues.waiting o.fences (turns o past) h))
        fewer false some = some
    op-keeps op r is some = before h some

  keeps : (h : ℕ) (actor : Actor) (op : Op) (r : Reply) → answer o past actor op ≡ Ok r → Keeps h (turn_of o past actor op r) (move_of o.config actor op r)
  keeps h (Hart x) op r answered some = op-keeps h x op r (taken o past x op r answered) some
  keeps h Clock op r answered some = before h some

pub waits-interruptible : (o : Opening) (past : List Event) → IsRight o.fences o.config.harts (turns o past) → IsLegal o past
    → (h : ℕ) → 0 < length (queues.waiting o.fences (turns o past) h) → is_interruptible (state o past h) ≡ true
waits-interruptible o [] right legal h some = legal.waits h some
waits-interruptible o (event ∷ past) right legal h some =
    let turn = turn_of o past event.actor event.op event.reply in
    keeps o past right.1 (waits-interruptible o past right.1 legal.2) h event.actor event.op event.reply legal.0
    (omega (arith, some, ap length (waiting-more o.fences o.config.harts turn (turns o past) h right.1)))
