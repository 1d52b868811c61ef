-- In a legal history an error does nothing, and what does nothing changes no look-up.
use Rattle.std.proofs.Common.{◌≡◌, ◌+◌, ℕ, Bool, true, false, List, [], ◌∷◌, length, refl, sym, ap, ◌∙◌, arith}
use Rattle.std.specs.Prelude.{Option, Some, None, Result, Ok, Err, nat_le, not, if◌then◌else◌, is_none, sum_by}
use Rattle.std.specs.List.{filter_map}
use Rattle.amo.specs.Amos.{reads, amo_size}
use Rattle.amo.specs.Parts.{word_at}
use Rattle.sbi_abi.specs.declared.answer.SbiError.{SbiError}
use Rattle.tlb_model.specs.declared.fence.Flush.{Flush}
use Rattle.rfence.specs.Turns.{Quiet}
use Rattle.sbi_abi.specs.declared.answer.SbiError.TheVariants.{InvalidParam, InvalidAddress, AlreadyAvailable, Failed}
use Rattle.sbi_abi.specs.declared.call.Call.{Call}
use Rattle.sbi_abi.specs.declared.call.Call.TheVariants as calls
use Rattle.sbi_abi.specs.declared.call.hsm.HsmCall.{HsmCall}
use Rattle.sbi_abi.specs.declared.call.hsm.HsmCall.TheVariants.{HartStart, HartStop, HartGetStatus, HartSuspend}
use Rattle.sbi_abi.specs.declared.call.ipi.IpiCall.{IpiCall}
use Rattle.sbi_abi.specs.declared.call.ipi.IpiCall.TheVariants.{SendIpi}
use Rattle.sbi_abi.specs.declared.call.rfence.RfenceCall.{RfenceCall}
use Rattle.sbi_abi.specs.declared.call.srst.SrstCall.{SrstCall}
use Rattle.sbi_abi.specs.declared.call.srst.SrstCall.TheVariants.{SystemReset}
use Rattle.sbi_abi.specs.declared.call.time.TimeCall.{TimeCall}
use Rattle.sbi_abi.specs.declared.call.time.TimeCall.TheVariants.{SetTimer}
use Rattle.sbi_abi.specs.declared.suspend.SuspendKind.{SuspendKind}
use Rattle.sbi_abi.specs.declared.suspend.SuspendKind.TheVariants.{Retentive, NonRetentive}
use Rattle.sbi_abi.specs.Calls.{call_of}
use Rattle.hart_mask.specs.HartList.{targets_of}
use Rattle.hsm.specs.declared.hart.HartState.{HartState}
use Rattle.hsm.specs.declared.hart.HartState.TheVariants.{Started, Stopped, StartPending, StopPending, Suspended, SuspendPending, ResumePending}
use Rattle.hsm.specs.declared.hart.EntryPoint.{EntryPoint}
use Rattle.hsm.specs.States.{is_stopped}
use Rattle.board_rules.specs.Opening.{Opening}
use Rattle.board_terms.specs.declared.op.Actor.{Actor}
use Rattle.board_terms.specs.declared.op.Actor.TheVariants.{Hart, Clock}
use Rattle.board_rules.specs.History.{Event}
use Rattle.board_terms.specs.declared.op.Op.{Op}
use Rattle.board_terms.specs.declared.op.Op.TheVariants.{Ecall, Load, Store, Fetch, Amo, WriteSatp, WriteSie, WriteSstatusSie, ReadSip, ClearSsip, Wfi, Sfence, FenceI, Poll, Serve, Advance, Tick}
use Rattle.board_terms.specs.declared.reply.Refusal.{Refusal}
use Rattle.board_terms.specs.declared.reply.Reply.{Reply}
use Rattle.board_terms.specs.declared.reply.Reply.TheVariants.{Ret, Value, Done}
use Rattle.board_rules.specs.Course.{harts_of}
use Rattle.sv39.specs.declared.cause.Cause.{Cause}
use Rattle.tlb_model.specs.declared.caches.Caches.{Caches}
use Rattle.tlb_model.specs.Entries.{Entry}
use Rattle.hart_access.specs.declared.accesses.Access.{Access}
use Rattle.hart_access.specs.declared.accesses.Access.TheVariants as accesses
use Rattle.hart_access.specs.Accesses as whole
use Rattle.board_rules.specs.Accesses.{access_reply_of, cached, hit}
use Rattle.board_rules.specs.Csrs.{sstatus_sie}
use Rattle.board_rules.specs.Memory.{memory, satp, written_by}
use Rattle.board_rules.proofs.Caching.{caches-same}
use Rattle.board_rules.specs.ErrorLaw.{LooksSame, is_error}
use Rattle.rfence.specs.State.{total_applied, total_asked}
use Rattle.board_rules.specs.Fences.{turn_of, turns, waiting}
use Rattle.board_rules.specs.Interrupts.{reaches_by, time}
use Rattle.board_terms.specs.Limits.{is_start_address}
use Rattle.board_rules.specs.Refusals.{clock_refusals, first_that_holds, is_full, situation}
use Rattle.board_rules.specs.Calls.Hsm.{hsm_reply, suspend_reply}
use Rattle.board_rules.specs.Calls.Ipi.{ipi_reply}
use Rattle.board_rules.specs.Calls.Rfence.{fence_reply_to}
use Rattle.board_rules.specs.Calls.Srst.{srst_reply}
use Rattle.board_rules.specs.Calls.Time.{time_reply}
use Rattle.board_rules.specs.Returns.{Leaves, Returns, as_reply}
use Rattle.board_rules.specs.Replies.{IsLegal, advance_reply, answer, call_reply, refused_or, reply, unless}
use Rattle.board_rules.specs.Resets.{is_off, last_reset, newer_or}
use Rattle.board_rules.specs.Starts.{Start, entered_before, entries, last_start, pending, starts, unless_reset}
use Rattle.board_rules.specs.States.{state}
use Rattle.board_rules.specs.Suspends.{resume_point}
use Rattle.board_rules.proofs.Events.{Deed, deed, deed_of_call, still}
use Rattle.board_rules.proofs.Rows.{accepted, clock_ticks}

module _ (o : Opening) (past : List Event) where
  -- a call that answers an error does nothing
  module _ (x : ℕ) where
    fence_failed : (call : RfenceCall) (harts : Option (List ℕ)) (flush : Result Flush SbiError) (r : Reply)
        → as_reply (fence_reply_to harts flush) ≡ r → is_error r ≡ true → deed_of_call o past x (calls.Rfence call) r ≡ still
    fence_failed call None flush r is error = rw (← is) refl
    fence_failed call (Some harts) (Err refused) r is error = rw (← is) refl
    fence_failed call (Some harts) (Ok flush) r is error = absurd (let e = rw (← is) at error in cc)

    failed_time : (call : TimeCall) (r : Reply) → as_reply (time_reply call) ≡ r → is_error r ≡ true → deed_of_call o past x (calls.Time call) r ≡ still
    failed_time (SetTimer deadline) r is error = absurd (let e = rw (← is) at error in cc)

    failed_ipi : (call : IpiCall) (r : Reply) → as_reply (ipi_reply o.config call) ≡ r → is_error r ≡ true → deed_of_call o past x (calls.Ipi call) r ≡ still
    failed_ipi (SendIpi mask base) r is error = rw (← is) (by_targets (is_none (targets_of mask base o.config.harts)) (rw (← is) at error))
      where
        by_targets : (none : Bool) → (let r = Ret (unless (first_that_holds ((none, InvalidParam) ∷ [])) 0) in
            is_error r ≡ true → deed_of_call o past x (calls.Ipi (SendIpi mask base)) r ≡ still)
        by_targets true error = refl
        by_targets false error = cc

    failed_hsm : (call : HsmCall) (r : Reply) → as_reply (hsm_reply o.config (sstatus_sie o past x) (state o past) call) ≡ r → is_error r ≡ true → deed_of_call o past x (calls.Hsm call) r ≡ still
    failed_hsm (HartStart t addr opaque) r is error =
        rw (← is) (by_errors (nat_le o.config.harts t) (is_start_address o.config.pages addr) (is_stopped (state o past t)) (rw (← is) at error))
      where
        by_errors : (missing right stopped : Bool)
            → (let r = Ret (unless (first_that_holds ((missing, InvalidParam) ∷ (not right, InvalidAddress) ∷ (not stopped, AlreadyAvailable) ∷ [])) 0) in
            is_error r ≡ true → deed_of_call o past x (calls.Hsm (HartStart t addr opaque)) r ≡ still)
        by_errors true right stopped error = refl
        by_errors false false stopped error = refl
        by_errors false true false error = refl
        by_errors false true true error = cc
    failed_hsm HartStop r is error = rw (← is) (by_enabled (sstatus_sie o past x) (rw (← is) at error))
      where
        by_enabled : (enabled : Bool) → (let r = as_reply (if enabled then Returns (Some Failed) 0 else Leaves) in is_error r ≡ true → deed_of_call o past x (calls.Hsm HartStop) r ≡ still)
        by_enabled true error = refl
        by_enabled false error = cc
    failed_hsm (HartGetStatus t) r is error = refl
    failed_hsm (HartSuspend kind addr opaque) r is error = rw (← is) (by_kind kind (rw (← is) at error))
      where
        by_address : (right : Bool) → (let r = as_reply (if right then Leaves else Returns (Some InvalidAddress) 0) in
            is_error r ≡ true → deed_of_call o past x (calls.Hsm (HartSuspend kind addr opaque)) r ≡ still)
        by_address true error = cc
        by_address false error = refl

        by_kind : (kind' : Result SuspendKind SbiError) → (let r = as_reply (suspend_reply o.config kind' addr) in
            is_error r ≡ true → deed_of_call o past x (calls.Hsm (HartSuspend kind addr opaque)) r ≡ still)
        by_kind (Err error') error = refl
        by_kind (Ok Retentive) error = cc
        by_kind (Ok NonRetentive) error = by_address (is_start_address o.config.pages addr) error

    failed_srst : (call : SrstCall) (r : Reply) → as_reply (srst_reply call) ≡ r → is_error r ≡ true → deed_of_call o past x (calls.Srst call) r ≡ still
    failed_srst (SystemReset (Ok reset)) r is error = absurd (let e = rw (← is) at error in cc)
    failed_srst (SystemReset (Err refused)) r is error = rw (← is) refl

    failed_call : (call : Call) (r : Reply) → call_reply o past x call ≡ r → is_error r ≡ true → deed_of_call o past x call r ≡ still
    failed_call (calls.Time call) r is error = failed_time call r is error
    failed_call (calls.Ipi call) r is error = failed_ipi call r is error
    failed_call (calls.Rfence call) r is error = fence_failed call _ _ r is error
    failed_call (calls.Hsm call) r is error = failed_hsm call r is error
    failed_call (calls.Srst call) r is error = failed_srst call r is error
    failed_call call r is error = refl

    -- an Advance answers no error
    advanced_well : (s : HartState) (start : Start) (resume : Option EntryPoint) → is_error (advance_reply x s start resume) ≡ false
    advanced_well Started start resume = refl
    advanced_well Stopped start resume = refl
    advanced_well StartPending start resume = refl
    advanced_well StopPending start resume = refl
    advanced_well SuspendPending start resume = refl
    advanced_well Suspended start resume = refl
    advanced_well ResumePending start None = refl
    advanced_well ResumePending start (Some kept) = refl

  -- an access answers no SBI error
  accessed_well : (what : Access) (result : Result ℕ Cause) → is_error (access_reply_of what result) ≡ false
  accessed_well accesses.Load (Ok word) = refl
  accessed_well accesses.Load (Err cause) = refl
  accessed_well (accesses.Store value) (Ok word) = refl
  accessed_well (accesses.Store value) (Err cause) = refl
  accessed_well accesses.Fetch (Ok word) = refl
  accessed_well accesses.Fetch (Err cause) = refl
  accessed_well (accesses.Amo at amo) (Ok old) = by_reads (reads amo)
    where
      by_reads : (is : Bool) → is_error (if is then Value old else Done) ≡ false
      by_reads true = refl
      by_reads false = refl
  accessed_well (accesses.Amo at amo) (Err cause) = refl

  -- a tick that isn't refused is done
  ticked_well : (refusal : Option Refusal) (r : Reply) → refused_or refusal Done ≡ Ok r → r ≡ Done
  ticked_well None r e = cc
  ticked_well (Some refusal) r e = cc

  failed : (actor : Actor) (op : Op) (r : Reply) (used : Option Entry) → answer o past actor op ≡ Ok r → is_error r ≡ true
      → deed o past (record { actor = actor; op = op; reply = r; translation = used }) ≡ still
  failed Clock (Ecall regs) r used e error = absurd (clock_ticks o past (Ecall regs) r refl e)
  failed Clock (Load va) r used e error = absurd (clock_ticks o past (Load va) r refl e)
  failed Clock (Store va value) r used e error = absurd (clock_ticks o past (Store va value) r refl e)
  failed Clock (Fetch va) r used e error = absurd (clock_ticks o past (Fetch va) r refl e)
  failed Clock (Amo at amo) r used e error = absurd (clock_ticks o past (Amo at amo) r refl e)
  failed Clock (WriteSatp value) r used e error = absurd (clock_ticks o past (WriteSatp value) r refl e)
  failed Clock (WriteSie value) r used e error = absurd (clock_ticks o past (WriteSie value) r refl e)
  failed Clock (WriteSstatusSie value) r used e error = absurd (clock_ticks o past (WriteSstatusSie value) r refl e)
  failed Clock ReadSip r used e error = absurd (clock_ticks o past ReadSip r refl e)
  failed Clock ClearSsip r used e error = absurd (clock_ticks o past ClearSsip r refl e)
  failed Clock Wfi r used e error = absurd (clock_ticks o past Wfi r refl e)
  failed Clock (Sfence va asid) r used e error = absurd (clock_ticks o past (Sfence va asid) r refl e)
  failed Clock FenceI r used e error = absurd (clock_ticks o past FenceI r refl e)
  failed Clock Poll r used e error = absurd (clock_ticks o past Poll r refl e)
  failed Clock Serve r used e error = absurd (clock_ticks o past Serve r refl e)
  failed Clock Advance r used e error = absurd (clock_ticks o past Advance r refl e)
  failed Clock (Tick n) r used e error = absurd (let e = sym (ap is_error (ticked_well (first_that_holds (clock_refusals (is_full o past) o past (Tick n))) r e)) ∙ error in cc)
  failed (Hart x) op r used e error = by_op op (accepted (is_off o past) (nat_le o.config.harts x) (situation o past x) op (is_full o past) (reply o past x op) r e).1
    where
      by_op : (op : Op) → reply o past x op ≡ r → deed o past (record { actor = Hart x; op = op; reply = r; translation = used }) ≡ still
      by_op (Ecall regs) is = failed_call x (call_of regs) r is error
      by_op (Load va) is = absurd
          (let e = sym (accessed_well accesses.Load (whole.answer (memory o past) (satp o past x) (hit o past x) (cached o past x) va accesses.Load)) ∙ ap is_error is ∙ error in cc)
      by_op (Store va value) is = absurd
          (let e = sym (accessed_well (accesses.Store value) (whole.answer (memory o past) (satp o past x) (hit o past x) (cached o past x) va (accesses.Store value))) ∙ ap is_error is ∙ error in cc)
      by_op (Fetch va) is = absurd
          (let e = sym (accessed_well accesses.Fetch (whole.answer (memory o past) (satp o past x) (hit o past x) (cached o past x) va accesses.Fetch)) ∙ ap is_error is ∙ error in cc)
      by_op (Amo at amo) is = absurd
          (let e = sym (accessed_well (accesses.Amo at amo) (whole.answer (memory o past) (satp o past x) (hit o past x) (cached o past x) (word_at (amo_size amo) at) (accesses.Amo at amo))) ∙ ap is_error is ∙ error in cc)
      by_op (WriteSatp value) is = absurd (let e = rw (← is) at error in cc)
      by_op (WriteSie value) is = absurd (let e = rw (← is) at error in cc)
      by_op (WriteSstatusSie value) is = absurd (let e = rw (← is) at error in cc)
      by_op ReadSip is = absurd (let e = rw (← is) at error in cc)
      by_op ClearSsip is = absurd (let e = rw (← is) at error in cc)
      by_op Wfi is = absurd (let e = rw (← is) at error in cc)
      by_op (Sfence va asid) is = absurd (let e = rw (← is) at error in cc)
      by_op FenceI is = absurd (let e = rw (← is) at error in cc)
      by_op Poll is = absurd (let e = rw (← is) at error in cc)
      by_op Serve is = absurd (let e = rw (← is) at error in cc)
      by_op Advance is = absurd (let e = sym (advanced_well x (state o past x) (last_start o past x) (resume_point o past x)) ∙ ap is_error is ∙ error in cc)
      by_op (Tick n) is = absurd (let e = rw (← is) at error in cc)

  -- what does nothing changes no look-up
  looks_same : (event : Event) → deed o past event ≡ still → LooksSame o past (event ∷ past)
  looks_same event none =
      let moves = ap (λ (d : Deed). d.harts.move) none in
      let begun = ap (λ (d : Deed). d.harts.start) none in
      let resumes = ap (λ (d : Deed). d.harts.resume) none in
      let sstatus = ap (λ (d : Deed). d.interrupts.sstatus) none in
      let sie = ap (λ (d : Deed). d.interrupts.sie) none in
      let ssip = ap (λ (d : Deed). d.interrupts.ssip) none in
      let deadline = ap (λ (d : Deed). d.interrupts.deadline) none in
      let no_satp = ap (λ (d : Deed). d.memory.satp) none in
      let ticks = ap (λ (d : Deed). d.interrupts.ticks) none in
      let entry = ap (λ (d : Deed). d.counts.entry) none in
      let turned : turn_of o past event.actor event.op event.reply ≡ Quiet = ap (λ (d : Deed). d.turn) none in
      let reach : (h : ℕ) → reaches_by o past event.op event.reply h ≡ false = λ h. ap (λ (d : Deed). d.interrupts.reach h) none in
      let started : length (starts o (event ∷ past)) ≡ length (starts o past) = rw begun refl in
      let entered : length (entries o (event ∷ past)) ≡ length (entries o past) = rw entry refl in
      let still_pending : (h : ℕ) → pending o (event ∷ past) h ≡ pending o past h = λ h. rw (moves, begun) refl in
      let asked : total_asked o.fences (turns o (event ∷ past)) ≡ total_asked o.fences (turns o past) = rw turned (omega arith) in
      let applied : total_applied o.fences o.config.harts (turns o (event ∷ past)) ≡ total_applied o.fences o.config.harts (turns o past) = rw turned (omega arith) in
      let before : entered_before o (event ∷ past) ≡ entered_before o past = ap (λ reset. unless_reset reset (entered_before o past)) (ap (λ (d : Deed). d.reset) none) in
      let waits : (h : ℕ) → waiting o (event ∷ past) h ≡ waiting o past h = λ h. rw turned refl in
      let later : time o (event ∷ past) ≡ time o past = rw ticks (omega arith) in
      record {
        state = λ h. rw moves refl;
        kept = λ h. rw (moves, begun, resumes) refl;
        sstatus_sie = λ h. rw sstatus refl;
        sie = λ h. rw sie refl;
        ssip = λ h. rw (reach h, ssip) refl;
        stip = λ h. rw (deadline, later) refl;
        wake = λ h. rw (sie, reach h, ssip, deadline, later) refl;
        deadline = λ h. rw deadline refl;
        satp = λ h. rw no_satp refl;
        word = λ at. ap (λ writing. written_by o.config writing (memory o past) at) (ap (λ (d : Deed). d.memory.writing) none);
        tlb = λ h. ap (λ (caches : Caches). caches.tlb.live) (caches-same o past event still none h refl refl);
        fetched = λ h. ap (λ (caches : Caches). caches.words.live) (caches-same o past event still none h refl refl);
        waiting = waits;
        outstanding = λ h. rw turned refl;
        asked = λ h. rw turned refl;
        call = λ h. rw turned refl;
        need = λ h t. rw turned refl;
        last_reset = ap (λ reset. newer_or reset (last_reset o past)) (ap (λ (d : Deed). d.reset) none);
        time = later;
        totals = λ i. record {
          starts = started i + before i;
          entries = entered i + before i;
          pending = length (filter_map (λ h. still_pending h i) (harts_of o.config));
          asked = asked i;
          applied = applied i;
          waiting = sum_by (λ h. length (waits h i)) (harts_of o.config);
        };
      }

pub errors_change_nothing : (o : Opening) (event : Event) (past : List Event) → IsLegal o (event ∷ past) → is_error event.reply ≡ true → LooksSame o past (event ∷ past)
errors_change_nothing o event past legal error = looks_same o past event (failed o past event.actor event.op event.reply event.translation legal.0 error)
