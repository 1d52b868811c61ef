-- In a legal history the starts of a hart are its entries and then its pending one.
use Rattle.std.proofs.Common.{◌≡◌, ℕ, Bool, true, false, List, [], ◌∷◌, ◌++◌, refl, sym, ap, ◌∙◌, eqb}
use Rattle.std.specs.Prelude.{Option, Some, None, Result, Ok, Err, filter, find, nat_le, not, if◌then◌else◌, unwrap_or}
use Rattle.std.specs.Option.{option_to_list}
use Rattle.std.proofs.lemmas.Bool.{eqb-true}
use Rattle.sbi_abi.specs.declared.answer.SbiError.{SbiError}
use Rattle.sbi_abi.specs.declared.reset.Reset.{Reset}
use Rattle.sbi_abi.specs.declared.answer.SbiError.TheVariants.{InvalidParam, InvalidAddress, AlreadyAvailable, Failed}
use Rattle.sbi_abi.specs.declared.call.Call.{Call}
use Rattle.sbi_abi.specs.declared.call.Call.TheVariants.{Hsm, Srst}
use Rattle.sbi_abi.specs.declared.call.hsm.HsmCall.TheVariants.{HartStart, HartStop, HartSuspend}
use Rattle.sbi_abi.specs.declared.call.srst.SrstCall.TheVariants.{SystemReset}
use Rattle.sbi_abi.specs.declared.suspend.SuspendKind.{SuspendKind}
use Rattle.sbi_abi.specs.declared.suspend.SuspendKind.TheVariants.{Retentive, NonRetentive}
use Rattle.sbi_abi.specs.Calls.{call_of}
use Rattle.hsm.specs.declared.hart.HartState.{HartState}
use Rattle.hsm.specs.declared.hart.HartState.TheVariants.{Started, Stopped, StartPending, StopPending, Suspended, SuspendPending, ResumePending}
use Rattle.hsm.specs.declared.hart.EntryPoint.{EntryPoint}
use Rattle.hsm.specs.States.{goes_on, is_start_pending, is_started, is_stopped}
use Rattle.board_rules.specs.Opening.{IsOpening, Opening}
use Rattle.board_terms.specs.declared.op.Actor.{Actor}
use Rattle.board_terms.specs.declared.op.Actor.TheVariants.{Hart, Clock}
use Rattle.board_rules.specs.History.{Event}
use Rattle.board_terms.specs.declared.op.Op.{Op}
use Rattle.board_terms.specs.declared.op.Op.TheVariants.{Ecall, Load, Store, Fetch, Amo, WriteSatp, WriteSie, WriteSstatusSie, ReadSip, ClearSsip, Wfi, Sfence, FenceI, Poll, Serve, Advance, Tick}
use Rattle.board_terms.specs.declared.reply.Reply.{Reply}
use Rattle.board_terms.specs.declared.reply.Reply.TheVariants.{Ret, Entry}
use Rattle.tlb_model.specs.Entries.{Entry as CacheEntry}
use Rattle.board_rules.specs.Csrs.{sstatus_sie}
use Rattle.board_terms.specs.Limits.{is_start_address}
use Rattle.board_rules.specs.Refusals.{first_that_holds, is_full, situation}
use Rattle.board_rules.specs.Interrupts.{wake}
use Rattle.board_rules.specs.Suspends.{resume_point}
use Rattle.board_rules.specs.Calls.Hsm.{suspend_reply}
use Rattle.board_rules.specs.Returns.{Leaves, Returns, as_reply}
use Rattle.board_rules.specs.Replies.{IsLegal, advance_reply, answer, call_reply, reply, resume_reply, unless}
use Rattle.board_rules.specs.Starts.{Anew, Growth, More, Start, grown, growth, starts_at, StartsAreEntered, boot_start, entries, entry_by, is_of, last_start, pending, start_by_call, starts}
use Rattle.board_rules.specs.Resets.{begins_anew, is_off, reset_by_call}
use Rattle.board_rules.specs.States.{Each, Move, One, state_at_boot, state_at_reset, move_by, move_by_call, moved_to, state}
use Rattle.board_rules.proofs.Opened.{entered-at_opening}
use Rattle.board_rules.proofs.Rows.{accepted, clock_ticks, running_parts}

-- what passes a filter first passes the test
filter-first : {A : Type 0} (p : A → Bool) (xs : List A) (y : A) (ys : List A) → filter p xs ≡ y ∷ ys → p y ≡ true
filter-first p [] y ys e = cc
filter-first p (x ∷ xs) y ys e = by_test (p x) refl (filter-first p xs y ys)
  where
    by_test : (b : Bool) → p x ≡ b → (filter p xs ≡ y ∷ ys → p y ≡ true) → p y ≡ true
    by_test true is later = let first : x ∷ filter p xs ≡ y ∷ ys = rw is at e in cc
    by_test false is later = later (rw is at e)

-- the start that an entry's reply tells is the last start of its hart
entered_start : (start : Start) (x addr hart opaque : ℕ) → x ≡ start.hart
    → Entry start.addr x start.opaque ≡ Entry addr hart opaque → record { hart = hart; addr = addr; opaque = opaque } ≡ start
entered_start start x addr hart opaque own same =
    let hart_is : hart ≡ start.hart = cc in
    let addr_is : addr ≡ start.addr = cc in
    let opaque_is : opaque ≡ start.opaque = cc in
    λ i. record { hart = hart_is i; addr = addr_is i; opaque = opaque_is i }

-- the law after one event more, by whether it concerns the hart: its state before, its starts and entries before, the
-- last of its starts that was found, and the boot start
module _ (s : HartState) (theirs entered : List Start) (found : Option Start) (boot : Start) where
  pending_of : HartState → Option Start → List Start
  pending_of now last = option_to_list (if is_start_pending now then Some (unwrap_or last boot) else None)

  by_start : (start : Start) (own : Bool) → (own ≡ true → s ≡ Stopped) → theirs ≡ pending_of s found ++ entered
      → (if own then start ∷ theirs else theirs)
      ≡ pending_of (if own then StartPending else s) (if own then Some start else found) ++ entered
  unfolding pending_of
  by_start start true stopped before = ap (λ (xs : List Start). start ∷ xs) (rw (stopped refl) at before)
  by_start start false stopped before = before

  by_move : (to : HartState) (own : Bool) → is_start_pending to ≡ false → (own ≡ true → is_start_pending s ≡ false)
      → theirs ≡ pending_of s found ++ entered → theirs ≡ pending_of (if own then to else s) found ++ entered
  unfolding pending_of
  by_move to true settled was before = rw settled (rw (was refl) at before)
  by_move to false settled was before = before

  by_entry : (entry : Start) (own : Bool) → (own ≡ true → theirs ≡ entry ∷ entered) → theirs ≡ pending_of s found ++ entered
      → theirs ≡ pending_of (if own then Started else s) found ++ (if own then entry ∷ entered else entered)
  unfolding pending_of
  by_entry entry true is before = is refl
  by_entry entry false is before = before

module _ (o : Opening) where
  -- the law for one hart
  IsEntered : List Event → ℕ → Type 0
  IsEntered past h = filter (is_of h) (starts o past) ≡ option_to_list (pending o past h) ++ filter (is_of h) (entries o past)

  by_test : (own : Bool) → (if own then boot_start o.config ∷ [] else [])
      ≡ option_to_list (if is_start_pending (if own then StartPending else Stopped) then Some (unwrap_or (if own then Some (boot_start o.config) else None) (boot_start o.config)) else None) ++ []
  by_test true = refl
  by_test false = refl

  at_opening : IsOpening o → (h : ℕ) → IsEntered [] h
  unfolding IsEntered
  at_opening opens h = entered-at_opening o opens h

  module _ (past : List Event) (before : (h : ℕ) → IsEntered past h) (h : ℕ) where
    -- the law for one hart, after an event that does this
    IsEnteredBy : Option Move → Option Growth → Option Growth → Type 0
    IsEnteredBy move start entry =
        filter (is_of h) (grown start (starts o past))
        ≡ option_to_list (if is_start_pending (moved_to move h (state o past h)) then Some (unwrap_or (find (is_of h) (grown start (starts o past))) (boot_start o.config)) else None)
        ++ filter (is_of h) (grown entry (entries o past))

    quiet : IsEnteredBy None None None
    unfolding IsEntered IsEnteredBy
    quiet = before h

    started : (t addr opaque : ℕ) → state o past t ≡ Stopped
        → IsEnteredBy (Some (One t StartPending)) (Some (More (record { hart = t; addr = addr; opaque = opaque }))) None
    unfolding IsEntered IsEnteredBy pending_of
    started t addr opaque stopped =
        by_start (state o past h) (filter (is_of h) (starts o past)) (filter (is_of h) (entries o past)) (find (is_of h) (starts o past)) (boot_start o.config)
        (record { hart = t; addr = addr; opaque = opaque }) (eqb h t) (λ own. ap (state o past) (eqb-true h t own) ∙ stopped) (before h)

    settled : (x : ℕ) (to : HartState) → is_start_pending to ≡ false → is_start_pending (state o past x) ≡ false
        → IsEnteredBy (Some (One x to)) None None
    unfolding IsEntered IsEnteredBy pending_of
    settled x to at_end was =
        by_move (state o past h) (filter (is_of h) (starts o past)) (filter (is_of h) (entries o past)) (find (is_of h) (starts o past)) (boot_start o.config)
        to (eqb h x) at_end (λ own. ap (λ n. is_start_pending (state o past n)) (eqb-true h x own) ∙ was) (before h)

    entered : (x addr hart opaque : ℕ) → state o past x ≡ StartPending
        → Entry (last_start o past x).addr x (last_start o past x).opaque ≡ Entry addr hart opaque
        → IsEnteredBy (Some (One x Started)) None (Some (More (record { hart = hart; addr = addr; opaque = opaque })))
    unfolding IsEntered IsEnteredBy pending_of
    entered x addr hart opaque ready told =
        let start = last_start o past x in
        let theirs = before x ∙ ap (λ s. option_to_list (if is_start_pending s then Some start else None) ++ filter (is_of x) (entries o past)) ready in
        let own = eqb-true x start.hart (filter-first (is_of x) (starts o past) start (filter (is_of x) (entries o past)) theirs) in
        let is = entered_start start x addr hart opaque own told in
        let hart_is : x ≡ hart = cc in
        let entry : Start = record { hart = hart; addr = addr; opaque = opaque } in
        rw (ap (λ n. eqb h n) hart_is)
        (by_entry (state o past h) (filter (is_of h) (starts o past)) (filter (is_of h) (entries o past)) (find (is_of h) (starts o past)) (boot_start o.config)
        entry (eqb h hart) (λ mine.
        let same : h ≡ x = eqb-true h hart mine ∙ sym hart_is in
        rw same (theirs ∙ ap (λ (first : Start). first ∷ filter (is_of x) (entries o past)) (sym is))) (before h))

  -- a reset begins anew
  anew : (past : List Event) (before : (h : ℕ) → IsEntered past h) (h : ℕ) (reset : Reset)
      → IsEnteredBy past before h (Some (Each (state_at_reset o.config reset))) (Some (Anew (starts_at o.config reset))) (Some (Anew []))
  unfolding IsEnteredBy
  anew past before h reset = by_kind (begins_anew reset.kind)
    where
      by_kind : (begins : Bool) → filter (is_of h) (if begins then boot_start o.config ∷ [] else [])
          ≡ option_to_list (if is_start_pending (if begins then state_at_boot o.config h else Stopped) then Some
          (unwrap_or (find (is_of h) (if begins then boot_start o.config ∷ [] else [])) (boot_start o.config)) else None) ++ []
      by_kind true = by_test (eqb h o.config.boot_hart)
      by_kind false = refl

  -- the law after a call
  after_call : (past : List Event) (before : (h : ℕ) → IsEntered past h) (h x : ℕ) (call : Call) (r : Reply)
      → state o past x ≡ Started → call_reply o past x call ≡ r
      → IsEnteredBy past before h (move_by_call o.config x call r) (start_by_call o.config call r) (growth None (reset_by_call call r) (λ reset. []))
  after_call past before h x (Hsm (HartStart t addr opaque)) r running is = rw (← is) (by_errors (nat_le o.config.harts t) (is_start_address o.config.pages addr) (state o past t) refl)
    where
      by_errors : (missing right : Bool) (s : HartState) → state o past t ≡ s
          → (let r = Ret (unless (first_that_holds ((missing, InvalidParam) ∷ (not right, InvalidAddress) ∷ (not (is_stopped s), AlreadyAvailable) ∷ [])) 0) in
          IsEnteredBy past before h (move_by_call o.config x (Hsm (HartStart t addr opaque)) r) (start_by_call o.config (Hsm (HartStart t addr opaque)) r) None)
      by_errors true right s at = quiet past before h
      by_errors false false s at = quiet past before h
      by_errors false true Stopped at = started past before h t addr opaque at
      by_errors false true Started at = quiet past before h
      by_errors false true StartPending at = quiet past before h
      by_errors false true StopPending at = quiet past before h
      by_errors false true Suspended at = quiet past before h
      by_errors false true SuspendPending at = quiet past before h
      by_errors false true ResumePending at = quiet past before h
  after_call past before h x (Hsm HartStop) r running is = rw (← is) (by_enabled (sstatus_sie o past x))
    where
      by_enabled : (enabled : Bool) → (let r = as_reply (if enabled then Returns (Some Failed) 0 else Leaves) in
          IsEnteredBy past before h (move_by_call o.config x (Hsm HartStop) r) (start_by_call o.config (Hsm HartStop) r) None)
      by_enabled true = quiet past before h
      by_enabled false = settled past before h x StopPending refl (ap is_start_pending running)
  after_call past before h x (Hsm (HartSuspend kind addr opaque)) r running is = rw (← is) (by_kind kind)
    where
      by_kind : (kind : Result SuspendKind SbiError) → (let r = as_reply (suspend_reply o.config kind addr) in
          IsEnteredBy past before h (move_by_call o.config x (Hsm (HartSuspend kind addr opaque)) r) (start_by_call o.config (Hsm (HartSuspend kind addr opaque)) r) None)
      by_kind (Err error) = quiet past before h
      by_kind (Ok Retentive) = settled past before h x SuspendPending refl (ap is_start_pending running)
      by_kind (Ok NonRetentive) = by_address (is_start_address o.config.pages addr)
        where
          by_address : (right : Bool) → (let r = as_reply (if right then Leaves else Returns (Some InvalidAddress) 0) in
              IsEnteredBy past before h (move_by_call o.config x (Hsm (HartSuspend kind addr opaque)) r) (start_by_call o.config (Hsm (HartSuspend kind addr opaque)) r) None)
          by_address true = settled past before h x SuspendPending refl (ap is_start_pending running)
          by_address false = quiet past before h
  after_call past before h x (Srst (SystemReset (Ok reset))) r running is = rw (← is) (anew past before h reset)
  after_call past before h x call r running is = quiet past before h

  -- the law after an Advance
  after_advance : (past : List Event) (before : (h : ℕ) → IsEntered past h) (h x : ℕ) (s : HartState) (wake : Bool) (r : Reply)
      → is_started s ≡ false → not (goes_on wake s) ≡ false → state o past x ≡ s → advance_reply x s (last_start o past x) (resume_point o past x) ≡ r
      → IsEnteredBy past before h (move_by o.config x Advance r) None (entry_by Advance r (is_start_pending s))
  after_advance past before h x Started wake r in_phase to_do at is = absurd cc
  after_advance past before h x Stopped wake r in_phase to_do at is = absurd cc
  after_advance past before h x StartPending wake r in_phase to_do at is = rw (← is) (entered past before h x _ _ _ at refl)
  after_advance past before h x StopPending wake r in_phase to_do at is = rw (← is) (settled past before h x Stopped refl (ap is_start_pending at))
  after_advance past before h x SuspendPending wake r in_phase to_do at is = rw (← is) (settled past before h x Suspended refl (ap is_start_pending at))
  after_advance past before h x Suspended wake r in_phase to_do at is = rw (← is) (settled past before h x ResumePending refl (ap is_start_pending at))
  after_advance past before h x ResumePending wake r in_phase to_do at is = rw (← is) (by_resume (resume_point o past x))
    where
      by_resume : (resume : Option EntryPoint) → (let r = resume_reply x resume in
          IsEnteredBy past before h (move_by o.config x Advance r) None (entry_by Advance r false))
      by_resume None = settled past before h x Started refl (ap is_start_pending at)
      by_resume (Some kept) = settled past before h x Started refl (ap is_start_pending at)

  after_event : (past : List Event) (actor : Actor) (op : Op) (r : Reply) (used : Option CacheEntry) → answer o past actor op ≡ Ok r
      → ((h : ℕ) → IsEntered past h) → (h : ℕ) → IsEntered (record { actor = actor; op = op; reply = r; translation = used } ∷ past) h
  unfolding IsEntered IsEnteredBy
  after_event past Clock (Ecall regs) r used e before h = absurd (clock_ticks o past (Ecall regs) r refl e)
  after_event past Clock (Load va) r used e before h = absurd (clock_ticks o past (Load va) r refl e)
  after_event past Clock (Store va value) r used e before h = absurd (clock_ticks o past (Store va value) r refl e)
  after_event past Clock (Fetch va) r used e before h = absurd (clock_ticks o past (Fetch va) r refl e)
  after_event past Clock (Amo at amo) r used e before h = absurd (clock_ticks o past (Amo at amo) r refl e)
  after_event past Clock (WriteSatp value) r used e before h = absurd (clock_ticks o past (WriteSatp value) r refl e)
  after_event past Clock (WriteSie value) r used e before h = absurd (clock_ticks o past (WriteSie value) r refl e)
  after_event past Clock (WriteSstatusSie value) r used e before h = absurd (clock_ticks o past (WriteSstatusSie value) r refl e)
  after_event past Clock ReadSip r used e before h = absurd (clock_ticks o past ReadSip r refl e)
  after_event past Clock ClearSsip r used e before h = absurd (clock_ticks o past ClearSsip r refl e)
  after_event past Clock Wfi r used e before h = absurd (clock_ticks o past Wfi r refl e)
  after_event past Clock (Sfence va asid) r used e before h = absurd (clock_ticks o past (Sfence va asid) r refl e)
  after_event past Clock FenceI r used e before h = absurd (clock_ticks o past FenceI r refl e)
  after_event past Clock Poll r used e before h = absurd (clock_ticks o past Poll r refl e)
  after_event past Clock Serve r used e before h = absurd (clock_ticks o past Serve r refl e)
  after_event past Clock Advance r used e before h = absurd (clock_ticks o past Advance r refl e)
  after_event past Clock (Tick n) r used e before h = before h
  after_event past (Hart x) (Ecall regs) r used e before h =
      let facts = accepted (is_off o past) (nat_le o.config.harts x) (situation o past x) (Ecall regs) (is_full o past) (reply o past x (Ecall regs)) r e in
      after_call past before h x (call_of regs) r (running_parts (situation o past x) facts.0.in_phase).0 facts.1
  after_event past (Hart x) (Load va) r used e before h = before h
  after_event past (Hart x) (Store va value) r used e before h = before h
  after_event past (Hart x) (Fetch va) r used e before h = before h
  after_event past (Hart x) (Amo at amo) r used e before h = before h
  after_event past (Hart x) (WriteSatp value) r used e before h = before h
  after_event past (Hart x) (WriteSie value) r used e before h = before h
  after_event past (Hart x) (WriteSstatusSie value) r used e before h = before h
  after_event past (Hart x) ReadSip r used e before h = before h
  after_event past (Hart x) ClearSsip r used e before h = before h
  after_event past (Hart x) Wfi r used e before h = before h
  after_event past (Hart x) (Sfence va asid) r used e before h = before h
  after_event past (Hart x) FenceI r used e before h = before h
  after_event past (Hart x) Poll r used e before h = before h
  after_event past (Hart x) Serve r used e before h = before h
  after_event past (Hart x) Advance r used e before h =
      let facts = accepted (is_off o past) (nat_le o.config.harts x) (situation o past x) Advance (is_full o past) (reply o past x Advance) r e in
      after_advance past before h x (state o past x) (wake o past x) r facts.0.in_phase facts.0.to_do refl facts.1
  after_event past (Hart x) (Tick n) r used e before h = before h

pub starts_are_entered : (o : Opening) (past : List Event) → IsLegal o past → StartsAreEntered o past
unfolding IsEntered
starts_are_entered o [] legal h = at_opening o legal h
starts_are_entered o (event ∷ past) legal h =
    after_event o past event.actor event.op event.reply event.translation legal.0 (starts_are_entered o past legal.2) h
