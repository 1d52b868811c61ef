-- The turns of a legal history of a good board are right.
use Rattle.std.proofs.Common.{◌≡◌, ℕ, ◌<◌, ◌≤◌, Bool, true, false, List, [], ◌∷◌, length, refl, sym, ap, ◌∙◌, arith, Option, Some, None, Result, Ok, Err, inl, inr}
use Rattle.std.specs.Prelude.{if◌then◌else◌, is_none, is_some, map, nat_le, not}
use Rattle.std.proofs.lemmas.Bool.{and_parts, cases_lt, leb-false, ne_eqb, not-false}
use Rattle.hsm.specs.declared.hart.HartState.{HartState}
use Rattle.hsm.specs.declared.hart.HartState.TheVariants as states
use Rattle.hsm.specs.Harts.{Hart as HartSeen}
use Rattle.hsm.specs.States.{is_interruptible, is_started, is_stopped}
use Rattle.rfence.specs.declared.opened.FenceCall.{FenceCall}
use Rattle.rfence.specs.Opening as fences
use Rattle.rfence.specs.Calls as calls
use Rattle.rfence.specs.Right.{IsRight, IsRightTurn}
use Rattle.rfence.specs.State.{in_call}
use Rattle.rfence.specs.Waiting as queues
use Rattle.sbi_abi.specs.declared.answer.Sbiret.{Sbiret}
use Rattle.sbi_abi.specs.declared.answer.SbiError.{SbiError}
use Rattle.sbi_abi.specs.declared.answer.SbiError.TheVariants.{InvalidParam, InvalidAddress, AlreadyAvailable}
use Rattle.sbi_abi.specs.declared.call.Call.{Call}
use Rattle.sbi_abi.specs.declared.call.Call.TheVariants.{Hsm, Srst}
use Rattle.sbi_abi.specs.declared.call.hsm.HsmCall.TheVariants.{HartStart, HartStop, HartSuspend}
use Rattle.sbi_abi.specs.declared.call.srst.SrstCall.TheVariants.{SystemReset}
use Rattle.sbi_abi.specs.Calls.{call_of}
use Rattle.sbi_abi.specs.declared.reset.Reset.{Reset}
use Rattle.sbi_abi.specs.Errors.{is_success}
use Rattle.hart_mask.specs.HartList.{targets_of}
use Rattle.tlb_model.specs.declared.fence.Flush.{Flush}
use Rattle.board_terms.specs.declared.config.Config.{Config}
use Rattle.board_rules.specs.Opening.{Opening}
use Rattle.board_terms.specs.declared.op.Actor.{Actor}
use Rattle.board_terms.specs.declared.op.Actor.TheVariants.{Hart, Clock}
use Rattle.board_terms.specs.declared.op.Op.{Op}
use Rattle.board_terms.specs.declared.op.Op.TheVariants.{Ecall, Sfence, FenceI, Advance}
use Rattle.board_terms.specs.declared.op.Op.TheVariants as ops
use Rattle.board_terms.specs.declared.reply.Reply.{Reply}
use Rattle.board_terms.specs.declared.reply.Reply.TheVariants as replies
use Rattle.board_rules.specs.Fences.{Remote, is_asked_by, outstanding, remote_of, turn_by, turn_by_call, turn_by_flush, turn_by_remote, turn_of, turns}
use Rattle.board_rules.specs.History.{Event}
use Rattle.board_rules.specs.Targets.{is_target}
use Rattle.board_terms.specs.Limits.{IsGood, is_start_address}
use Rattle.board_rules.specs.Refusals.{first_that_holds, has_nothing_to_do, is_empty, is_out_of_phase, is_running, situation, waits_for_some}
use Rattle.board_rules.specs.Calls.Hsm.{start_errors}
use Rattle.board_rules.specs.Replies.{IsLegal, answer, call_reply, reply, unless}
use Rattle.board_rules.specs.Resets.{begins_anew}
use Rattle.board_rules.specs.States.{One, move_by, move_by_call, move_of, moved_to, state, state_at_boot, state_at_reset}
use Rattle.board_rules.proofs.InCalls.{taken}
use Rattle.board_rules.proofs.Interruptible as interruptible
use Rattle.board_rules.proofs.Opened.{rests-outside}

-- ---- harts that aren't there

-- a start that succeeds is of a hart that is there
started-inside : (o : Opening) (past : List Event) (t addr : ℕ) (answered : Sbiret) → replies.Ret (unless (first_that_holds (start_errors o.config (state o past) t addr)) 0) ≡ replies.Ret answered
    → is_success answered ≡ true → t < o.config.harts
started-inside o past t addr answered e ok = by_test (nat_le o.config.harts t) refl e
  where
    by_test : (missing : Bool) → nat_le o.config.harts t ≡ missing
        → replies.Ret (unless
        (first_that_holds ((missing, InvalidParam) ∷ (not (is_start_address o.config.pages addr), InvalidAddress) ∷ (not (is_stopped (state o past t)), AlreadyAvailable) ∷ [])) 0)
        ≡ replies.Ret answered
        → t < o.config.harts
    by_test true there e =
        let failed : unless (Some InvalidParam) 0 ≡ answered = cc in
        let wrong : false ≡ true = ap is_success failed ∙ ok in
        cc
    by_test false there e = leb-false o.config.harts t there

-- a hart that isn't there stays STOPPED where another one is moved
one-stays : (c : Config) (t h : ℕ) (s : HartState) → c.harts ≤ t → h < c.harts → moved_to (Some (One h s)) t states.Stopped ≡ states.Stopped
one-stays c t h s outside inside = rw (ne_eqb t h (λ same. absurd (omega arith))) refl

-- it isn't the boot hart, and so it is STOPPED at the opening, and after a reset
opening-stops : (c : Config) (t : ℕ) → c.boot_hart < c.harts → c.harts ≤ t → state_at_boot c t ≡ states.Stopped
opening-stops c t boot outside =
    rw (ne_eqb t c.boot_hart (λ same. absurd (omega arith))) refl

reset-stops : (c : Config) (t : ℕ) (reset : Reset) → c.boot_hart < c.harts → c.harts ≤ t → state_at_reset c reset t ≡ states.Stopped
reset-stops c t reset boot outside = by_kind (begins_anew reset.kind)
  where
    by_kind : (anew : Bool) → (if anew then state_at_boot c t else states.Stopped) ≡ states.Stopped
    by_kind true = opening-stops c t boot outside
    by_kind false = refl

module _ (o : Opening) (past : List Event) (t : ℕ) (boot : o.config.boot_hart < o.config.harts) (outside : o.config.harts ≤ t) where
  -- so it stays STOPPED by a call
  call-stays : (x : ℕ) (call : Call) (r : Reply) → x < o.config.harts → call_reply o past x call ≡ r → moved_to (move_by_call o.config x call r) t states.Stopped ≡ states.Stopped
  call-stays x (Hsm (HartStart h addr opaque)) (replies.Ret answered) inside replied = by_success (is_success answered) refl
    where
      by_success : (ok : Bool) → is_success answered ≡ ok → moved_to (if ok then Some (One h states.StartPending) else None) t states.Stopped ≡ states.Stopped
      by_success true is = one-stays o.config t h states.StartPending outside (started-inside o past h addr answered replied is)
      by_success false is = refl
  call-stays x (Hsm HartStop) replies.Gone inside replied = one-stays o.config t x states.StopPending outside inside
  call-stays x (Hsm (HartSuspend kind addr opaque)) replies.Gone inside replied = one-stays o.config t x states.SuspendPending outside inside
  call-stays x (Hsm (HartSuspend kind addr opaque)) replies.Waiting inside replied = one-stays o.config t x states.SuspendPending outside inside
  call-stays x (Srst (SystemReset (Ok reset))) replies.Gone inside replied = reset-stops o.config t reset boot outside
  call-stays x call r inside replied = refl

  -- and by any operation
  op-stays : (x : ℕ) (op : Op) (r : Reply) → x < o.config.harts → reply o past x op ≡ r → moved_to (move_by o.config x op r) t states.Stopped ≡ states.Stopped
  op-stays x (Ecall regs) r inside replied = call-stays x (call_of regs) r inside replied
  op-stays x Advance (replies.Entry addr hart opaque) inside replied = one-stays o.config t x states.Started outside inside
  op-stays x Advance (replies.Ret answered) inside replied = one-stays o.config t x states.Started outside inside
  op-stays x Advance (replies.Moved s) inside replied = one-stays o.config t x s outside inside
  op-stays x op r inside replied = refl

  stays : (actor : Actor) (op : Op) (r : Reply) → answer o past actor op ≡ Ok r → moved_to (move_of o.config actor op r) t states.Stopped ≡ states.Stopped
  stays (Hart x) op r answered = let is = taken o past x op r answered in op-stays x op r is.inside is.replied
  stays Clock op r answered = refl

-- no event moves a hart that isn't there, so it is STOPPED as it was at the opening
pub stopped-outside : (o : Opening) (past : List Event) (t : ℕ) → o.config.boot_hart < o.config.harts → IsLegal o past → o.config.harts ≤ t → state o past t ≡ states.Stopped
stopped-outside o [] t boot legal outside = ap (λ (hart : HartSeen). hart.state) (rests-outside o legal t outside)
stopped-outside o (event ∷ past) t boot legal outside =
    ap (moved_to (move_of o.config event.actor event.op event.reply) t) (stopped-outside o past t boot legal.2 outside)
    ∙ stays o past t boot outside event.actor event.op event.reply legal.0

-- ---- each turn

asked-inside : (o : Opening) (past : List Event) (mask base t : ℕ) → o.config.boot_hart < o.config.harts → IsLegal o past → is_asked_by o past mask base t ≡ true → t < o.config.harts
asked-inside o past mask base t boot legal asked = elim (cases_lt t o.config.harts) [
  | inl inside ↦ inside
  | inr outside ↦
      let parts = and_parts (is_target (targets_of mask base o.config.harts) t) (is_interruptible (state o past t)) asked in
      let wrong : false ≡ true = sym (ap is_interruptible (stopped-outside o past t boot legal outside)) ∙ parts.1 in
      absurd (cc)
]

no-call : (opened : Option (FenceCall Flush)) (ids : List ℕ) → is_none (in_call opened ids) ≡ true → opened ≡ None
no-call None ids e = refl
no-call (Some place) ids e = cc

some-call : (opened : Option (FenceCall Flush)) (ids : List ℕ) → is_none (in_call opened ids) ≡ false → waits_for_some (in_call opened ids) ≡ false → (is_some opened ≡ true) × (ids ≡ [])
some-call None ids open_now waits = cc
some-call (Some place) [] open_now waits = (refl, refl)
some-call (Some place) (h ∷ ids) open_now waits = cc

some-waits : {A B : Type 0} (f : A → B) (xs : List A) → is_empty (map f xs) ≡ false → 0 < length xs
some-waits f [] e = cc
some-waits f (x ∷ xs) e = omega arith

module _ (o : Opening) (past : List Event) (x : ℕ) (boot : o.config.boot_hart < o.config.harts) (legal : IsLegal o past) (inside : x < o.config.harts) where
  right-remote : (remote : Option Remote) (r : Reply) → calls.open_call o.fences (turns o past) x ≡ None → IsRightTurn o.fences o.config.harts (turns o past) (turn_by_remote o past x remote r)
  right-remote (Some remote) replies.Waiting none = by_flush remote.flush
    where
      by_flush : (flush : Result Flush SbiError) → IsRightTurn o.fences o.config.harts (turns o past) (turn_by_flush o past x remote.mask remote.base flush)
      by_flush (Ok flush) = (inside, λ t asked. asked-inside o past remote.mask remote.base t boot legal asked, none)
      by_flush (Err error) = tt
  right-remote remote r none = tt

  right-call : (call : Call) (r : Reply) → calls.open_call o.fences (turns o past) x ≡ None → IsRightTurn o.fences o.config.harts (turns o past) (turn_by_call o past x call r)
  right-call (Hsm HartStop) replies.Gone none = inside
  right-call (Srst (SystemReset (Ok reset))) replies.Gone none = tt
  right-call call r none = right-remote (remote_of o.config call) r none

  -- a guest runs outside of a call
  outside-call : not (is_running (situation o past x)) ≡ false → calls.open_call o.fences (turns o past) x ≡ None
  outside-call e =
      let parts = and_parts (is_started (state o past x)) (is_none (outstanding o past x)) (not-false (is_running (situation o past x)) e) in
      no-call (calls.open_call o.fences (turns o past) x) (calls.outstanding o.fences o.config.harts (turns o past) x) parts.1

  right-op : (op : Op) (r : Reply) → is_out_of_phase op (situation o past x) ≡ false → has_nothing_to_do op (situation o past x) ≡ false
      → IsRightTurn o.fences o.config.harts (turns o past) (turn_by o past x op r)
  right-op (Ecall regs) r in_phase to_do = right-call (call_of regs) r (outside-call in_phase)
  right-op (Sfence va asid) r in_phase to_do = inside
  right-op FenceI r in_phase to_do = inside
  right-op ops.Serve r in_phase to_do = (inside, some-waits fences.kept (queues.waiting o.fences (turns o past) x) to_do)
  right-op ops.Poll r in_phase to_do =
      let call = some-call (calls.open_call o.fences (turns o past) x) (calls.outstanding o.fences o.config.harts (turns o past) x) in_phase to_do in
      (inside, call.0, call.1)
  right-op op r in_phase to_do = tt

right-turn : (o : Opening) (past : List Event) (actor : Actor) (op : Op) (r : Reply) → o.config.boot_hart < o.config.harts → IsLegal o past → answer o past actor op ≡ Ok r
    → IsRightTurn o.fences o.config.harts (turns o past) (turn_of o past actor op r)
right-turn o past (Hart x) op r boot legal answered =
    let is = taken o past x op r answered in
    right-op o past x boot legal is.inside op r is.in_phase is.to_do
right-turn o past Clock op r boot legal answered = tt

-- so they are whatever the limit is
pub right-turns : (o : Opening) (past : List Event) → o.config.boot_hart < o.config.harts → IsLegal o past → IsRight o.fences o.config.harts (turns o past)
right-turns o [] boot legal = legal.fences
right-turns o (event ∷ past) boot legal = (right-turn o past event.actor event.op event.reply boot legal.2 legal.0, right-turns o past boot legal.2)

pub turns_are_right : (o : Opening) (past : List Event) → IsGood o.config → IsLegal o past → IsRight o.fences o.config.harts (turns o past)
turns_are_right o past good legal = right-turns o past good.boot_hart_is_there legal

-- a hart at which fences wait is in an interruptible state
pub waits-interruptible : (o : Opening) (past : List Event) → IsGood o.config → IsLegal o past
    → (h : ℕ) → 0 < length (queues.waiting o.fences (turns o past) h) → is_interruptible (state o past h) ≡ true
waits-interruptible o past good legal = interruptible.waits-interruptible o past (turns_are_right o past good legal) legal
