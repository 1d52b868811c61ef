-- On the opening that a history leaves, everything is answered as on the history.
use Rattle.std.proofs.Common.{◌≡◌, ℕ, ◌+◌, ◌<◌, Bool, true, false, List, [], ◌∷◌, length, map, refl, sym, ap, ◌∙◌, arith, inl, inr}
use Rattle.std.specs.Prelude.{Some, None, filter, is_some, nat_le, not, sum_by, unwrap_or, if◌then◌else◌}
use Rattle.std.specs.List.{list_any, range_with_len}
use Rattle.std.proofs.lemmas.Bool.{cases_lt, le-leb, leb-false}
use Rattle.hart_mask.proofs.Sets.{has-ids_where}
use Rattle.amo.specs.Amos.{amo_size}
use Rattle.amo.specs.Parts.{word_at}
use Rattle.sbi_abi.specs.declared.answer.SbiError.TheVariants.{AlreadyAvailable, Failed, InvalidAddress, InvalidParam}
use Rattle.sbi_abi.specs.declared.call.Call.{Call}
use Rattle.sbi_abi.specs.declared.call.Call.TheVariants.{Hsm}
use Rattle.sbi_abi.specs.declared.call.hsm.HsmCall.TheVariants.{HartGetStatus, HartStart, HartStop}
use Rattle.sbi_abi.specs.Calls.{call_of}
use Rattle.hart_access.specs.declared.accesses.Access.{Access}
use Rattle.hart_access.specs.declared.accesses.Access.TheVariants as accesses
use Rattle.hart_access.specs.Accesses as whole
use Rattle.hsm.specs.declared.hart.HartState.{HartState}
use Rattle.hsm.specs.declared.hart.HartState.TheVariants.{Started, Stopped, StartPending, StopPending, Suspended, SuspendPending, ResumePending}
use Rattle.hsm.specs.Harts.{Hart}
use Rattle.hsm.specs.States.{is_start_pending, is_stopped, state_number}
use Rattle.interrupts.specs.Timing.{is_due}
use Rattle.rfence.specs.Calls as calls
use Rattle.rfence.specs.Need as fence_needs
use Rattle.rfence.specs.Opening as fence_openings
use Rattle.rfence.specs.State.{in_call, total_applied, total_asked}
use Rattle.rfence.proofs.Seams.{called-after, waited-after}
use Rattle.fence_queue.specs.Positions.{position_of}
use Rattle.tlb_model.specs.Contents.{hit}
use Rattle.tlb_model.specs.Entries.{matches}
use Rattle.tlb_model.specs.Words.{is_at}
use Rattle.board_rules.specs.Accesses.{access_reply, access_reply_of}
use Rattle.board_rules.specs.Course.{harts_of}
use Rattle.board_rules.specs.Csrs.{enables, interrupt_bits, sie, sstatus_sie}
use Rattle.board_rules.specs.Cuts.{IsHeld, IsUnseen, opening_of}
use Rattle.board_terms.specs.declared.op.Actor.{Actor}
use Rattle.board_terms.specs.declared.op.Actor.TheVariants.{Hart as OfHart, Clock}
use Rattle.board_terms.specs.declared.op.Op.{Op}
use Rattle.board_terms.specs.declared.op.Op.TheVariants.{Ecall, Load, Store, Fetch, Amo, ReadSip, Advance}
use Rattle.board_terms.specs.declared.reply.Refusal.{Refusal}
use Rattle.board_terms.specs.declared.reply.Refusal.TheVariants.{Off, WrongPhase}
use Rattle.board_terms.specs.declared.reply.Reply.{Reply}
use Rattle.board_terms.specs.declared.reply.Reply.TheVariants.{Value}
use Rattle.board_rules.specs.Fences.{outstanding, turns, waiting}
use Rattle.board_rules.specs.History.{Event}
use Rattle.board_rules.specs.Interrupts.{ssip, stip, time, wake}
use Rattle.board_terms.specs.Limits.{is_start_address}
use Rattle.board_rules.specs.Opening.{Opening}
use Rattle.board_rules.specs.Refusals.{first_that_holds, refusals_in, situation}
use Rattle.board_rules.specs.Replies.{advance_reply, answer_when, call_reply, refused_or, reply}
use Rattle.board_rules.specs.Resets.{is_off}
use Rattle.board_rules.specs.Returns.{Leaves, Returns, as_reply}
use Rattle.board_rules.specs.Starts.{Start, all_pending, boot_start, entered_before, entries, hart_of, kept_in, last_start, pending, start_in, starts}
use Rattle.board_rules.specs.States.{state}
use Rattle.board_rules.specs.Suspends.{resume_point}
use Rattle.board_rules.specs.Totals.{totals}
use Rattle.board_rules.proofs.Cutting.{caches_of-cut, deadlines-cut, hart-cut, harts-cut, memory-cut, opened, opens-cut, satps-cut, starts-agree, starts-cut}
use Rattle.board_rules.proofs.Opened.{found-inside}

module _ (o : Opening) (past : List Event) (held : IsHeld o past) where
  abbrev cut : Opening
  cut = opening_of o past

  few : (h : ℕ) → h < o.config.harts → h < 128
  few h inside = let most = (opened o past held).fences.limit in omega arith

  state-cut : (h : ℕ) → h < o.config.harts → state cut [] h ≡ state o past h
  state-cut h inside = ap (λ (hart : Hart). hart.state) (hart-cut o past held h inside)

  sie-cut : (h : ℕ) → h < o.config.harts → sie cut [] h ≡ sie o past h
  sie-cut h inside =
      let software = has-ids_where (λ i. (sie o past i).ssie) h (few h inside) in
      let timer = has-ids_where (λ i. (sie o past i).stie) h (few h inside) in
      λ i. record { ssie = software i; stie = timer i }

  ssip-cut : (h : ℕ) → h < o.config.harts → ssip cut [] h ≡ ssip o past h
  ssip-cut h inside = has-ids_where (ssip o past) h (few h inside)

  stip-cut : (h : ℕ) → h < o.config.harts → stip cut [] h ≡ stip o past h
  stip-cut h inside = ap (is_due (time o past)) (deadlines-cut o past held h inside)

  wake-cut : (h : ℕ) → h < o.config.harts → wake cut [] h ≡ wake o past h
  wake-cut h inside = λ i. enables (sie-cut h inside i) (ssip-cut h inside i) (stip-cut h inside i)

  waiting-cut : (h : ℕ) → waiting cut [] h ≡ waiting o past h
  waiting-cut h = ap (map fence_openings.kept) (waited-after o.fences o.config.harts (turns o past) held.right h)

  call-cut : (h : ℕ) → fence_openings.called_at cut.fences h ≡ calls.open_call o.fences (turns o past) h
  call-cut h = called-after o.fences o.config.harts (turns o past) held.right h

  outstanding-cut : (h : ℕ) → outstanding cut [] h ≡ outstanding o past h
  outstanding-cut h =
      ap (λ call. in_call call (calls.outstanding cut.fences o.config.harts [] h)) (call-cut h)
      ∙ ap (in_call (calls.open_call o.fences (turns o past) h)) (filter-cut h)
    where
      filter-cut : (h : ℕ) → calls.outstanding cut.fences o.config.harts [] h ≡ calls.outstanding o.fences o.config.harts (turns o past) h
      filter-cut h = λ i. filter (λ t. list_any (calls.is_at (call-cut h i)) (waited-after o.fences o.config.harts (turns o past) held.right t i)) (range_with_len 0 o.config.harts)

  need-cut : (h t : ℕ) → fence_needs.need cut.fences [] h t ≡ fence_needs.need o.fences (turns o past) h t
  need-cut h t = λ i. position_of (calls.is_at (call-cut h i)) (waited-after o.fences o.config.harts (turns o past) held.right t i)

  situation-cut : (h : ℕ) → h < o.config.harts → situation cut [] h ≡ situation o past h
  situation-cut h inside = λ i. record { state = state-cut h inside i; wake = wake-cut h inside i; call = outstanding-cut h i; fences = waiting-cut h i }

  -- ---- replies

  sstatus-cut : (h : ℕ) → h < o.config.harts → sstatus_sie cut [] h ≡ sstatus_sie o past h
  sstatus-cut h inside = has-ids_where (sstatus_sie o past) h (few h inside)

  call_reply-cut : (h : ℕ) → h < o.config.harts → (call : Call) → call_reply cut [] h call ≡ call_reply o past h call
  call_reply-cut h inside (Hsm (HartStart t addr opaque)) = by_hart (nat_le o.config.harts t) refl
    where
      by_hart : (missing : Bool) → nat_le o.config.harts t ≡ missing
          → as_reply (Returns (first_that_holds
          ((nat_le o.config.harts t, InvalidParam) ∷ (not (is_start_address o.config.pages addr), InvalidAddress) ∷ (not (is_stopped (state cut [] t)), AlreadyAvailable) ∷ [])) 0)
          ≡ as_reply (Returns (first_that_holds
          ((nat_le o.config.harts t, InvalidParam) ∷ (not (is_start_address o.config.pages addr), InvalidAddress) ∷ (not (is_stopped (state o past t)), AlreadyAvailable) ∷ [])) 0)
      by_hart true is = rw is refl
      by_hart false is =
          ap (λ s. as_reply (Returns
          (first_that_holds ((nat_le o.config.harts t, InvalidParam) ∷ (not (is_start_address o.config.pages addr), InvalidAddress) ∷ (not (is_stopped s), AlreadyAvailable) ∷ [])) 0))
          (state-cut t (leb-false o.config.harts t is))
  call_reply-cut h inside (Hsm (HartGetStatus t)) = by_hart (nat_le o.config.harts t) refl
    where
      by_hart : (missing : Bool) → nat_le o.config.harts t ≡ missing
          → as_reply (Returns (first_that_holds ((nat_le o.config.harts t, InvalidParam) ∷ [])) (state_number (state cut [] t)))
          ≡ as_reply (Returns (first_that_holds ((nat_le o.config.harts t, InvalidParam) ∷ [])) (state_number (state o past t)))
      by_hart true is = rw is refl
      by_hart false is =
          ap (λ s. as_reply (Returns (first_that_holds ((nat_le o.config.harts t, InvalidParam) ∷ [])) (state_number s))) (state-cut t (leb-false o.config.harts t is))
  call_reply-cut h inside (Hsm HartStop) = ap (λ enabled. as_reply (if enabled then Returns (Some Failed) 0 else Leaves)) (sstatus-cut h inside)
  call_reply-cut h inside call = refl

  access_reply-cut : (h : ℕ) → h < o.config.harts → (va : ℕ) (what : Access) → access_reply cut [] h va what ≡ access_reply o past h va what
  access_reply-cut h inside va what =
      let caches = caches_of-cut o past held h inside in
      λ i. access_reply_of what (whole.answer (memory-cut o past held i) (satps-cut o past held h inside i) (λ at. hit matches at (caches i).tlb) (λ pa. hit is_at pa (caches i).words) va what)

  advance_reply-cut : (h : ℕ) → h < o.config.harts
      → advance_reply h (state cut [] h) (last_start cut [] h) (resume_point cut [] h) ≡ advance_reply h (state o past h) (last_start o past h) (resume_point o past h)
  advance_reply-cut h inside =
      ap (λ (hart : Hart). advance_reply h hart.state (last_start cut [] h) hart.kept) (hart-cut o past held h inside)
      ∙ by_state (state o past h) refl
      (ap (λ one. unwrap_or one (boot_start o.config)) (found-inside cut (opens-cut o past held) h inside ∙ ap (λ (hart : Hart). start_in h hart.state hart.kept) (hart-cut o past held h inside)))
    where
      by_state : (s : HartState) → state o past h ≡ s → last_start cut [] h ≡ unwrap_or (start_in h (state o past h) (hart_of o past h).kept) (boot_start o.config)
          → advance_reply h (state o past h) (last_start cut [] h) (kept_in (state o past h) (last_start o past h) (resume_point o past h))
          ≡ advance_reply h (state o past h) (last_start o past h) (resume_point o past h)
      by_state StartPending at last =
          ap (λ (start : Start). advance_reply h (state o past h) start (kept_in (state o past h) (last_start o past h) (resume_point o past h))) last ∙ (rw at refl)
      by_state Started at last = rw at refl
      by_state Stopped at last = rw at refl
      by_state StopPending at last = rw at refl
      by_state Suspended at last = rw at refl
      by_state SuspendPending at last = rw at refl
      by_state ResumePending at last = rw at refl

  reply-cut : (h : ℕ) → h < o.config.harts → (op : Op) → reply cut [] h op ≡ reply o past h op
  reply-cut h inside (Ecall regs) = call_reply-cut h inside (call_of regs)
  reply-cut h inside (Load va) = access_reply-cut h inside va accesses.Load
  reply-cut h inside (Store va value) = access_reply-cut h inside va (accesses.Store value)
  reply-cut h inside (Fetch va) = access_reply-cut h inside va accesses.Fetch
  reply-cut h inside (Amo at amo) = access_reply-cut h inside (word_at (amo_size amo) at) (accesses.Amo at amo)
  reply-cut h inside ReadSip = λ i. Value (interrupt_bits (ssip-cut h inside i) (stip-cut h inside i))
  reply-cut h inside Advance = advance_reply-cut h inside
  reply-cut h inside op = refl

  -- an operation of a hart that isn't there is refused, whatever else is so
  refused-far : (off missing : Bool) → missing ≡ true → (xs ys : List (Bool × Refusal)) (r s : Reply)
      → refused_or (first_that_holds ((off, Off) ∷ (missing, WrongPhase) ∷ xs)) r ≡ refused_or (first_that_holds ((off, Off) ∷ (missing, WrongPhase) ∷ ys)) s
  refused-far true missing is xs ys r s = refl
  refused-far false missing is xs ys r s = rw is refl

  answer-cut : (is_full : Bool) (actor : Actor) (op : Op) → answer_when is_full cut [] actor op ≡ answer_when is_full o past actor op
  answer-cut is_full (OfHart h) op = elim (cases_lt h o.config.harts) [
    | inl near ↦ λ i. refused_or (first_that_holds ((is_off o past, Off) ∷ (nat_le o.config.harts h, WrongPhase) ∷ refusals_in (situation-cut h near i) op is_full)) (reply-cut h near op i)
    | inr far ↦ refused-far (is_off o past) (nat_le o.config.harts h) (le-leb o.config.harts h far) (refusals_in (situation cut [] h) op is_full) (refusals_in (situation o past h) op is_full)
        (reply cut [] h op) (reply o past h op)
  ]
  answer-cut is_full Clock op = refl

  -- ---- totals

  pends : (s : HartState) (start : Start) → is_some (if is_start_pending s then Some start else None) ≡ is_start_pending s
  pends s start = by_test (is_start_pending s)
    where
      by_test : (b : Bool) → is_some (if b then Some start else None) ≡ b
      by_test true = refl
      by_test false = refl

  pending-same : length (all_pending cut []) ≡ length (all_pending o past)
  pending-same =
      starts-agree o past held (pending cut []) (pending o past) 0 o.config.harts (λ h above below.
      pends (state cut [] h) (last_start cut [] h) ∙ ap is_start_pending (state-cut h (omega arith)) ∙ sym (pends (state o past h) (last_start o past h)))

  totals-cut : totals cut [] ≡ totals o past
  totals-cut =
      let started : length (starts cut []) + entered_before cut [] ≡ length (starts o past) + entered_before o past = omega (arith, starts-cut o past held) in
      let entered : length (entries cut []) + entered_before cut [] ≡ length (entries o past) + entered_before o past = omega arith in
      λ i. record {
        starts = started i;
        entries = entered i;
        pending = pending-same i;
        asked = total_asked o.fences (turns o past);
        applied = total_applied o.fences o.config.harts (turns o past);
        waiting = sum_by (λ h. length (waiting-cut h i)) (harts_of o.config);
      }

  pub unseen : IsUnseen o past
  unseen = record {
    state = state-cut;
    kept = λ h inside. ap (λ (hart : Hart). hart.kept) (harts-cut o past held h inside);
    sstatus_sie = sstatus-cut;
    sie = sie-cut;
    ssip = ssip-cut;
    stip = stip-cut;
    wake = wake-cut;
    deadline = deadlines-cut o past held;
    satp = satps-cut o past held;
    caches = caches_of-cut o past held;
    waiting = waiting-cut;
    outstanding = outstanding-cut;
    need = need-cut;
    time = refl;
    last_reset = refl;
    word = memory-cut o past held;
    totals = totals-cut;
    answer = answer-cut;
  }
