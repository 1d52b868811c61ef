-- One event after a cut leaves what it leaves after all events.
use Rattle.std.proofs.Common.{◌≡◌, ℕ, ◌+◌, ◌<◌, Bool, true, false, List, [], ◌∷◌, length, map, subst, refl, sym, ap, ◌∙◌, arith, Option, Some, None, Result, Ok, Err, inl, inr}
use Rattle.std.specs.Prelude.{◌==◌, ◌||◌, find, if◌then◌else◌, is_some, unwrap_or}
use Rattle.std.proofs.lemmas.Bool.{cases_lt, eqb-true}
use Rattle.hart_mask.specs.Ids.{has, ids_where}
use Rattle.hart_mask.proofs.Sets.{has-ids_where, ids_where-agree}
use Rattle.hsm.specs.declared.hart.HartState.{HartState}
use Rattle.hsm.specs.declared.hart.HartState.TheVariants as states
use Rattle.hsm.specs.declared.hart.EntryPoint.{EntryPoint}
use Rattle.hsm.specs.Harts.{Hart as HartSeen}
use Rattle.hsm.specs.States.{is_start_pending}
use Rattle.rfence.specs.Applied.{Empties, applied_by, effect, first_drop}
use Rattle.rfence.specs.Cuts as fence_cuts
use Rattle.rfence.specs.Opening as fences
use Rattle.rfence.specs.Turns.{Turn, Ask, empties}
use Rattle.rfence.proofs.Seams.{seamless, waited-after}
use Rattle.rfence.proofs.Tables.{tabulate-agree}
use Rattle.sbi_abi.specs.declared.answer.SbiError.{SbiError}
use Rattle.sbi_abi.specs.declared.call.Call.{Call}
use Rattle.sbi_abi.specs.declared.call.Call.TheVariants.{Hsm, Ipi, Srst}
use Rattle.sbi_abi.specs.declared.call.hsm.HsmCall.TheVariants.{HartStart, HartStop, HartSuspend}
use Rattle.sbi_abi.specs.declared.call.srst.SrstCall.TheVariants.{SystemReset}
use Rattle.sbi_abi.specs.declared.reset.Reset.{Reset}
use Rattle.sbi_abi.specs.Calls.{call_of}
use Rattle.sbi_abi.specs.Errors.{is_success}
use Rattle.tlb_model.specs.declared.fence.Flush.{Flush}
use Rattle.tlb_model.specs.Acts.{acted}
use Rattle.tlb_model.specs.Contents.{hit as hit_of}
use Rattle.tlb_model.specs.Entries.{covers_entry, matches}
use Rattle.tlb_model.specs.Words.{covers_word, is_at}
use Rattle.tlb_model.proofs.Living.{keeps_what_lives}
use Rattle.hart_access.specs.Accesses as whole
use Rattle.rfence.specs.State.{total_applied, total_asked}
use Rattle.board_core.specs.Accesses.{used, used_by_access}
use Rattle.board_core.specs.Calls.Ipi.{reaches_by_ipi}
use Rattle.board_core.specs.Course.{harts_of, is_hart}
use Rattle.board_core.specs.Csrs.{sie, sie_by, sstatus_sie, sstatus_sie_by}
use Rattle.board_rules.specs.declared.sie.Sie.{Sie}
use Rattle.board_core.specs.Cuts.{IsHeld, opening_of, words_of}
use Rattle.board_terms.specs.declared.op.Actor.{Actor}
use Rattle.board_terms.specs.declared.op.Actor.TheVariants.{Hart, Clock}
use Rattle.board_terms.specs.declared.op.Op.{Op}
use Rattle.board_terms.specs.declared.op.Op.TheVariants.{Advance, Ecall, Tick}
use Rattle.board_terms.specs.declared.reply.Reply.{Reply}
use Rattle.board_terms.specs.declared.reply.Reply.TheVariants as replies
use Rattle.board_core.specs.Fences.{Remote, remote_of, turn_by_call, turn_by_flush, turn_by_remote, turn_of, turns}
use Rattle.board_core.specs.History.{Event, Reach, access_of}
use Rattle.board_core.specs.Interrupts.{deadline, deadline_by, reaches_by, reaches_by_call, ssip, ssip_by, time}
use Rattle.board_core.specs.Memory.{act_by, caches_of, entry_filling, hit_in, cached_in, memory, own_filling, satp, satp_by, tlb_acts, word_acts, word_filling, writing_by, written_by}
use Rattle.board_core.specs.Opening.{Opening, place_after, tlb_at, words_at}
use Rattle.board_core.specs.Replies.{IsLegal, advance_reply, answer, reply}
use Rattle.board_core.specs.Resets.{begins_anew, last_reset, reset_by}
use Rattle.board_core.specs.Starts.{Anew, Growth, More, Start, boot_start, entered_before, entered_by, entries, entry_by, grown}
use Rattle.board_core.specs.Starts.{growth, hart_of, is_of, kept, kept_in, last_start, start_by, start_by_call, starts, starts_at, unless_reset}
use Rattle.board_core.specs.States.{Each, Move, One, is_starting, move_by, move_by_call, move_of, moved_to, state, state_at_boot, state_at_reset}
use Rattle.board_core.specs.Suspends.{resume_by, resume_by_call, resume_point}
use Rattle.board_core.specs.Targets.{is_reached}
use Rattle.board_core.specs.Writes.{Here, Write, latest}
use Rattle.board_core.proofs.Cutting.{caches_of-cut, deadlines-cut, hart-cut, hart-past, harts-cut, memory-cut, satps-cut}
use Rattle.board_core.proofs.InCalls.{taken}
use Rattle.board_core.proofs.Lengths.{length-tlb_acts, length-word_acts}
use Rattle.board_core.proofs.Rows.{clock_ticks}
use Rattle.board_core.proofs.Right.{right-turns, stopped-outside}

-- how many starts were entered, of before the cut and since
counted : (start : Option Start) (reset : Option Reset) (before : List Start) (entered : ℕ) → (is_some start ≡ true → reset ≡ None)
    → length (grown (growth start reset (λ reset. [])) []) + unless_reset reset (length before + entered)
    ≡ length (grown (growth start reset (λ reset. [])) before) + unless_reset reset entered
counted (Some start) reset before entered alone = let none = alone refl in rw none (omega arith)
counted None None before entered alone = omega arith
counted None (Some reset) before entered alone = refl

-- an entry is no reset
entry-alone : (op : Op) (r : Reply) (starting : Bool) → is_some (entered_by op r starting) ≡ true → reset_by op r ≡ None
entry-alone Advance r starting is = refl
entry-alone op r starting is = cc

module _ (o : Opening) (past : List Event) (held : IsHeld o past) where
  abbrev cut : Opening
  cut = opening_of o past

  -- ---- with no event

  same-set : (p : ℕ → Bool) → ids_where (has (ids_where p)) ≡ ids_where p
  same-set p = ids_where-agree (has (ids_where p)) p (λ h below. has-ids_where p h below)

  -- a cut right after a cut leaves the same
  pub again : opening_of (opening_of o past) [] ≡ opening_of o past
  again =
      let places : place_after cut [] ≡ place_after o past = omega arith in
      let harts = tabulate-agree (hart_of cut []) (hart_of o past) o.config.harts (λ h inside. harts-cut o past held h inside) in
      let deadlines = tabulate-agree (deadline cut []) (deadline o past) o.config.harts (λ h inside. deadlines-cut o past held h inside) in
      let timers : (opening_of cut []).timers ≡ (opening_of o past).timers = λ i. record { time = time o past; deadlines = deadlines i } in
      let words = ap (words_of o.config.pages) (memory-cut o past held) in
      let satps = tabulate-agree (satp cut []) (satp o past) o.config.harts (λ h inside. satps-cut o past held h inside) in
      let caches = tabulate-agree (caches_of cut []) (caches_of o past) o.config.harts (λ h inside. caches_of-cut o past held h inside) in
      let seam = seamless o.fences o.config.harts (turns o past) [] held.right in
      let place : fences.place_after cut.fences [] ≡ fences.place_after o.fences (turns o past) = omega arith in
      let sstatus = same-set (sstatus_sie o past) in
      let software = same-set (λ h. (sie o past h).ssie) in
      let timer = same-set (λ h. (sie o past h).stie) in
      let pending = same-set (ssip o past) in
      let entered : length (entries cut []) + entered_before cut [] ≡ length (entries o past) + entered_before o past = omega arith in
      λ i. record {
        config = o.config;
        places = places i;
        harts = harts i;
        sstatus_sie = sstatus i;
        ssie = software i;
        stie = timer i;
        ssip = pending i;
        timers = timers i;
        ram = words i;
        satps = satps i;
        caches = caches i;
        fences = record {
          first = place i;
          waiting = map (λ t. seam.waits t i) (harts_of o.config);
          calls = map (λ c. seam.calls c i) (harts_of o.config);
          asked = total_asked o.fences (turns o past);
          applied = total_applied o.fences o.config.harts (turns o past);
        };
        entered = entered i;
        last_reset = last_reset o past;
      }

  -- the entry that an operation uses
  pub used-cut : (h : ℕ) → h < o.config.harts → (op : Op) → used cut [] h op ≡ used o past h op
  used-cut h near op = by_access (access_of op)
    where
      by_access : (reach : Option Reach) → used_by_access cut [] h reach ≡ used_by_access o past h reach
      by_access None = refl
      by_access (Some reach) =
          let caches = caches_of-cut o past held h near in
          λ i. whole.used (memory-cut o past held i) (satps-cut o past held h near i) (λ at. hit_of matches at (caches i).tlb) reach.va reach.access

  -- ---- what an event is after the cut

  state-cut : (t : ℕ) → state cut [] t ≡ state o past t
  state-cut t = elim (cases_lt t o.config.harts) [
    | inl near ↦ ap (λ (hart : HartSeen). hart.state) (hart-cut o past held t near)
    | inr far ↦ ap (λ (hart : HartSeen). hart.state) (hart-past o past held t far) ∙ sym (stopped-outside o past t held.boot_hart_is_there held.legal far)
  ]

  starting-cut : (actor : Actor) → is_starting cut [] actor ≡ is_starting o past actor
  starting-cut (Hart x) = ap is_start_pending (state-cut x)
  starting-cut Clock = refl

  remote-cut : (x : ℕ) (remote : Option Remote) (r : Reply) → turn_by_remote cut [] x remote r ≡ turn_by_remote o past x remote r
  remote-cut x (Some remote) replies.Waiting = by_flush remote.flush
    where
      by_flush : (flush : Result Flush SbiError) → turn_by_flush cut [] x remote.mask remote.base flush ≡ turn_by_flush o past x remote.mask remote.base flush
      by_flush (Ok flush) = λ i. Ask x (λ t. is_reached o.config (λ s. state-cut s i) remote.mask remote.base t) flush
      by_flush (Err error) = refl
  remote-cut x remote r = refl

  call-cut : (x : ℕ) (call : Call) (r : Reply) → turn_by_call cut [] x call r ≡ turn_by_call o past x call r
  call-cut x (Hsm call) r = refl
  call-cut x (Srst call) r = refl
  call-cut x call r = remote-cut x (remote_of o.config call) r

  turn-cut : (actor : Actor) (op : Op) (r : Reply) → turn_of cut [] actor op r ≡ turn_of o past actor op r
  turn-cut (Hart x) (Ecall regs) r = call-cut x (call_of regs) r
  turn-cut (Hart x) op r = refl
  turn-cut Clock op r = refl

  reach-cut : (op : Op) (r : Reply) (h : ℕ) → reaches_by cut [] op r h ≡ reaches_by o past op r h
  reach-cut (Ecall regs) r h = by_call (call_of regs)
    where
      by_call : (call : Call) → reaches_by_call cut [] call r h ≡ reaches_by_call o past call r h
      by_call (Ipi call) = λ i. reaches_by_ipi o.config (λ t. state-cut t i) call r h
      by_call call = refl
  reach-cut op r h = refl

  effect-cut : (turn : Turn Flush) (h : ℕ) → effect cut.fences [] turn h ≡ effect o.fences (turns o past) turn h
  effect-cut turn h =
      let place : fences.place_after cut.fences [] ≡ fences.place_after o.fences (turns o past) = omega arith in
      λ i. if empties turn h then Empties else first_drop (applied_by (place i) (waited-after o.fences o.config.harts (turns o past) held.right h i) turn h)

  -- ---- caches

  module _ (event : Event) (h : ℕ) (near : h < o.config.harts) where
    effects : effect cut.fences [] (turn_of cut [] event.actor event.op event.reply) h ≡ effect o.fences (turns o past) (turn_of o past event.actor event.op event.reply) h
    effects = ap (λ turn. effect cut.fences [] turn h) (turn-cut event.actor event.op event.reply) ∙ effect-cut (turn_of o past event.actor event.op event.reply) h

    tlb-cut : (caches_of cut (event ∷ []) h).tlb ≡ (caches_of o (event ∷ past) h).tlb
    tlb-cut =
        let caches = caches_of-cut o past held h near in
        let filling : entry_filling event.op event.translation (satp cut [] h) (hit_in cut h [])
        ≡ entry_filling event.op event.translation (satp o past h) (hit_in o h (tlb_acts o past h)) =
        λ i. entry_filling event.op event.translation (satps-cut o past held h near i) (λ at. hit_of matches at (caches i).tlb) in
        let place : cut.places + 0 ≡ o.places + length (tlb_acts o past h) = omega (arith, length-tlb_acts o past h) in
        keeps_what_lives cut.places (tlb_at cut h) covers_entry _ []
        ∙ (λ i. acted covers_entry (place i) (caches i).tlb (act_by (effects i) (own_filling (is_hart h event.actor) (filling i))))
        ∙ sym (keeps_what_lives o.places (tlb_at o h) covers_entry _ (tlb_acts o past h))

    words-cut : (caches_of cut (event ∷ []) h).words ≡ (caches_of o (event ∷ past) h).words
    words-cut =
        let caches = caches_of-cut o past held h near in
        let filling : word_filling event.op event.reply event.translation (memory cut []) (cached_in cut h [])
        ≡ word_filling event.op event.reply event.translation (memory o past) (cached_in o h (word_acts o past h)) =
        λ i. word_filling event.op event.reply event.translation (memory-cut o past held i) (λ pa. hit_of is_at pa (caches i).words) in
        let place : cut.places + 0 ≡ o.places + length (word_acts o past h) = omega (arith, length-word_acts o past h) in
        keeps_what_lives cut.places (words_at cut h) covers_word _ []
        ∙ (λ i. acted covers_word (place i) (caches i).words (act_by (effects i) (own_filling (is_hart h event.actor) (filling i))))
        ∙ sym (keeps_what_lives o.places (words_at o h) covers_word _ (word_acts o past h))

    caches-onward : caches_of cut (event ∷ []) h ≡ caches_of o (event ∷ past) h
    caches-onward = λ i. record { tlb = tlb-cut i; words = words-cut i }

  -- ---- what is kept of harts

  module _ (h : ℕ) (near : h < o.config.harts) where
    -- after this move, this start and this word of a suspend, the hart's own or not, the same is kept of hart h
    abbrev Agree : Option Move → Option Growth → Option (Write (Option EntryPoint)) → (own : Bool) → Type 0
    Agree move start resume own =
        kept_in (moved_to move h (state o past h)) (unwrap_or (find (is_of h) (grown start (starts cut []))) (boot_start o.config)) (latest resume own (kept o past h))
        ≡ kept_in (moved_to move h (state o past h)) (unwrap_or (find (is_of h) (grown start (starts o past))) (boot_start o.config)) (latest resume own (resume_point o past h))

    stays : (own : Bool) → Agree None None None own
    stays own =
        sym (λ i. kept_in (hart-cut o past held h near i).state (last_start cut [] h) (hart-cut o past held h near i).kept)
        ∙ ap (λ (hart : HartSeen). hart.kept) (harts-cut o past held h near)

    starts-anew : (start : Start) (own : Bool) → Agree (Some (One start.hart states.StartPending)) (Some (More start)) None own
    starts-anew start own = by_hart (h == start.hart)
      where
        by_hart : (same : Bool)
            → (let s = if same then states.StartPending else state o past h in kept_in s (unwrap_or (if same then Some start else find (is_of h) (starts cut [])) (boot_start o.config))
            (kept o past h))
            ≡ (let s = if same then states.StartPending else state o past h in kept_in s (unwrap_or (if same then Some start else find (is_of h) (starts o past)) (boot_start o.config))
            (resume_point o past h))
        by_hart true = refl
        by_hart false = stays own

    -- a hart that is moved to where nothing is kept
    abbrev KeepsNone : HartState → Type 0
    KeepsNone s = (start : Start) (resume : Option EntryPoint) → kept_in s start resume ≡ None

    rests : (x : ℕ) (s : HartState) (own : Bool) → KeepsNone s → Agree (Some (One x s)) None None own
    rests x s own none = by_hart (h == x)
      where
        by_hart : (same : Bool)
            → kept_in (if same then s else state o past h) (last_start cut [] h) (kept o past h) ≡ kept_in (if same then s else state o past h) (last_start o past h) (resume_point o past h)
        by_hart true = none (last_start cut [] h) (kept o past h) ∙ sym (none (last_start o past h) (resume_point o past h))
        by_hart false = stays own

    -- one that is suspended
    suspends : (x : ℕ) (resume : Option EntryPoint) → Agree (Some (One x states.SuspendPending)) None (Some (Here resume)) (h == x)
    suspends x resume = by_hart (h == x)
      where
        by_hart : (same : Bool) → kept_in (if same then states.SuspendPending else state o past h) (last_start cut [] h) (if same then resume else kept o past h)
            ≡ kept_in (if same then states.SuspendPending else state o past h) (last_start o past h) (if same then resume else resume_point o past h)
        by_hart true = refl
        by_hart false = stays false

    -- and one that goes on in its suspend
    abbrev KeepsResume : HartState → Type 0
    KeepsResume s = (start : Start) (resume : Option EntryPoint) → kept_in s start resume ≡ resume

    sleeps : (x : ℕ) (before s : HartState) (own : Bool) → state o past x ≡ before → KeepsResume before → KeepsResume s → Agree (Some (One x s)) None None own
    sleeps x before s own is kept_before kept_now = by_hart (h == x) refl
      where
        by_hart : (same : Bool) → (h == x) ≡ same
            → kept_in (if same then s else state o past h) (last_start cut [] h) (kept o past h) ≡ kept_in (if same then s else state o past h) (last_start o past h) (resume_point o past h)
        by_hart true same =
            let here : state o past h ≡ before = ap (state o past) (eqb-true h x same) ∙ is in
            kept_now (last_start cut [] h) (kept o past h)
            ∙ ap (λ s. kept_in s (last_start o past h) (resume_point o past h)) here ∙ kept_before (last_start o past h) (resume_point o past h)
            ∙ sym (kept_now (last_start o past h) (resume_point o past h))
        by_hart false other = stays own

    resets : (reset : Reset) (own : Bool) → Agree (Some (Each (state_at_reset o.config reset))) (Some (Anew (starts_at o.config reset))) None own
    resets reset own = by_kind (begins_anew reset.kind) (unwrap_or (find (is_of h) (starts_at o.config reset)) (boot_start o.config))
      where
        by_kind : (anew : Bool) (start : Start)
            → kept_in (if anew then state_at_boot o.config h else states.Stopped) start (kept o past h)
            ≡ kept_in (if anew then state_at_boot o.config h else states.Stopped) start (resume_point o past h)
        by_kind true start = by_boot (h == o.config.boot_hart)
          where
            by_boot : (boot : Bool)
                → kept_in (if boot then states.StartPending else states.Stopped) start (kept o past h) ≡ kept_in (if boot then states.StartPending else states.Stopped) start (resume_point o past h)
            by_boot true = refl
            by_boot false = refl
        by_kind false start = refl

    call-agrees : (x : ℕ) (call : Call) (r : Reply) → Agree (move_by_call o.config x call r) (start_by_call o.config call r) (resume_by_call call r) (h == x)
    call-agrees x (Hsm (HartStart t addr opaque)) (replies.Ret answered) = by_success (is_success answered)
      where
        by_success : (ok : Bool)
            → Agree (if ok then Some (One t states.StartPending) else None) (growth (if ok then Some (record { hart = t; addr = addr; opaque = opaque }) else None) None (starts_at o.config)) None
            (h == x)
        by_success true = starts-anew (record { hart = t; addr = addr; opaque = opaque }) (h == x)
        by_success false = stays (h == x)
    call-agrees x (Hsm HartStop) replies.Gone = rests x states.StopPending (h == x) (λ start resume. refl)
    call-agrees x (Hsm (HartSuspend kind addr opaque)) replies.Gone = suspends x (Some (record { addr = addr; opaque = opaque }))
    call-agrees x (Hsm (HartSuspend kind addr opaque)) replies.Waiting = suspends x None
    call-agrees x (Srst (SystemReset (Ok reset))) replies.Gone = resets reset (h == x)
    call-agrees x call r = stays (h == x)

    advance-agrees : (x : ℕ) (before s : HartState) (start : Start) (resume : Option EntryPoint) → state o past x ≡ before → advance_reply x before start resume ≡ replies.Moved s
        → Agree (Some (One x s)) None None (h == x)
    advance-agrees x states.Started s start resume is replied =
        let same : states.Started ≡ s = cc in subst (λ s. Agree (Some (One x s)) None None (h == x)) same (rests x states.Started (h == x) (λ start resume. refl))
    advance-agrees x states.Stopped s start resume is replied =
        let same : states.Stopped ≡ s = cc in subst (λ s. Agree (Some (One x s)) None None (h == x)) same (rests x states.Stopped (h == x) (λ start resume. refl))
    advance-agrees x states.StartPending s start resume is replied = cc
    advance-agrees x states.StopPending s start resume is replied =
        let same : states.Stopped ≡ s = cc in subst (λ s. Agree (Some (One x s)) None None (h == x)) same (rests x states.Stopped (h == x) (λ start resume. refl))
    advance-agrees x states.SuspendPending s start resume is replied =
        let same : states.Suspended ≡ s = cc in
        subst (λ s. Agree (Some (One x s)) None None (h == x)) same (sleeps x states.SuspendPending states.Suspended (h == x) is (λ start resume. refl) (λ start resume. refl))
    advance-agrees x states.Suspended s start resume is replied =
        let same : states.ResumePending ≡ s = cc in
        subst (λ s. Agree (Some (One x s)) None None (h == x)) same (sleeps x states.Suspended states.ResumePending (h == x) is (λ start resume. refl) (λ start resume. refl))
    advance-agrees x states.ResumePending s start None is replied = cc
    advance-agrees x states.ResumePending s start (Some resume) is replied = cc

    op-agrees : (x : ℕ) (op : Op) (r : Reply) → reply o past x op ≡ r → Agree (move_by o.config x op r) (start_by o.config op r) (resume_by op r) (h == x)
    op-agrees x (Ecall regs) r replied = call-agrees x (call_of regs) r
    op-agrees x Advance (replies.Entry addr hart opaque) replied = rests x states.Started (h == x) (λ start resume. refl)
    op-agrees x Advance (replies.Ret answered) replied = rests x states.Started (h == x) (λ start resume. refl)
    op-agrees x Advance (replies.Moved s) replied = advance-agrees x (state o past x) s (last_start o past x) (resume_point o past x) refl replied
    op-agrees x op r replied = stays (h == x)

    agrees : (actor : Actor) (op : Op) (r : Reply) → answer o past actor op ≡ Ok r → Agree (move_of o.config actor op r) (start_by o.config op r) (resume_by op r) (is_hart h actor)
    agrees (Hart x) op r answered = op-agrees x op r (taken o past x op r answered).replied
    agrees Clock (Tick n) r answered = stays false
    agrees Clock op r answered = absurd (clock_ticks o past op r refl answered)

    hart-onward : (event : Event) → answer o past event.actor event.op ≡ Ok event.reply → hart_of cut (event ∷ []) h ≡ hart_of o (event ∷ past) h
    hart-onward event answered =
        let move = move_of o.config event.actor event.op event.reply in
        let start = unwrap_or (find (is_of h) (grown (start_by o.config event.op event.reply) (starts cut []))) (boot_start o.config) in
        let resume = resume_by event.op event.reply in
        let own = is_hart h event.actor in
        let agreed = agrees event.actor event.op event.reply answered in
        let before : kept_in (moved_to move h (state cut [] h)) start (latest resume own (resume_point cut [] h))
        ≡ kept_in (moved_to move h (state o past h)) start (latest resume own (kept o past h)) =
        λ i. kept_in (moved_to move h (state-cut h i)) start (latest resume own (hart-cut o past held h near i).kept) in
        let states_agree = ap (moved_to move h) (state-cut h) in
        let all = before ∙ agreed in
        λ i. record { state = states_agree i; kept = all i }

  -- ---- all of it

  module _ (event : Event) (legal : IsLegal o (event ∷ past)) where
    starting : is_starting cut [] event.actor ≡ is_starting o past event.actor
    starting = starting-cut event.actor

    sie-onward : (h : ℕ) → h < 128 → sie cut (event ∷ []) h ≡ sie o (event ∷ past) h
    sie-onward h below =
        let software = has-ids_where (λ i. (sie o past i).ssie) h below in
        let timer = has-ids_where (λ i. (sie o past i).stie) h below in
        λ i. latest (sie_by event.op event.reply (starting i)) (is_hart h event.actor) (record { ssie = software i; stie = timer i })

    ssip-onward : (h : ℕ) → h < 128 → ssip cut (event ∷ []) h ≡ ssip o (event ∷ past) h
    ssip-onward h below =
        λ i. reach-cut event.op event.reply h i || latest (ssip_by event.op event.reply (starting i)) (is_hart h event.actor) (has-ids_where (ssip o past) h below i)

    fences-onward : fence_cuts.opening_after cut.fences o.config.harts (turns cut (event ∷ [])) ≡ fence_cuts.opening_after o.fences o.config.harts (turns o (event ∷ past))
    fences-onward =
        let turn = turn_of o past event.actor event.op event.reply in
        let seam = seamless o.fences o.config.harts (turns o past) (turn ∷ []) (right-turns o (event ∷ past) held.boot_hart_is_there legal) in
        let place : fences.place_after cut.fences (turn ∷ []) ≡ fences.place_after o.fences (turns o (event ∷ past)) = omega arith in
        ap (λ turn. fence_cuts.opening_after cut.fences o.config.harts (turn ∷ [])) (turn-cut event.actor event.op event.reply)
        ∙ (λ i. record {
          first = place i;
          waiting = map (λ t. seam.waits t i) (harts_of o.config);
          calls = map (λ c. seam.calls c i) (harts_of o.config);
          asked = seam.asked i;
          applied = seam.applied i;
        })

    entered-onward : length (entries cut (event ∷ [])) + entered_before cut (event ∷ []) ≡ length (entries o (event ∷ past)) + entered_before o (event ∷ past)
    entered-onward =
        ap (λ s. length (grown (entry_by event.op event.reply s) []) + unless_reset (reset_by event.op event.reply) cut.entered) starting
        ∙ counted (entered_by event.op event.reply (is_starting o past event.actor)) (reset_by event.op event.reply) (entries o past) (entered_before o past)
        (entry-alone event.op event.reply (is_starting o past event.actor))

    timers-onward : (opening_of cut (event ∷ [])).timers ≡ (opening_of o (event ∷ past)).timers
    timers-onward =
        let deadlines = tabulate-agree (deadline cut (event ∷ [])) (deadline o (event ∷ past)) o.config.harts
        (λ h inside i. latest (deadline_by event.op event.reply (starting i)) (is_hart h event.actor) (deadlines-cut o past held h inside i)) in
        λ i. record { time = time o (event ∷ past); deadlines = deadlines i }

    pub onward : opening_of (opening_of o past) (event ∷ []) ≡ opening_of o (event ∷ past)
    onward =
        let places : place_after cut (event ∷ []) ≡ place_after o (event ∷ past) = omega arith in
        let harts = tabulate-agree (hart_of cut (event ∷ [])) (hart_of o (event ∷ past)) o.config.harts (λ h inside. hart-onward h inside event legal.0) in
        let sstatus = ids_where-agree (sstatus_sie cut (event ∷ [])) (sstatus_sie o (event ∷ past))
        (λ h below. ap (latest (sstatus_sie_by event.op event.reply) (is_hart h event.actor)) (has-ids_where (sstatus_sie o past) h below)) in
        let software = ids_where-agree (λ h. (sie cut (event ∷ []) h).ssie) (λ h. (sie o (event ∷ past) h).ssie) (λ h below. ap (λ (s : Sie). s.ssie) (sie-onward h below)) in
        let timer = ids_where-agree (λ h. (sie cut (event ∷ []) h).stie) (λ h. (sie o (event ∷ past) h).stie) (λ h below. ap (λ (s : Sie). s.stie) (sie-onward h below)) in
        let pending = ids_where-agree (ssip cut (event ∷ [])) (ssip o (event ∷ past)) ssip-onward in
        let words = ap (λ m. words_of o.config.pages (written_by o.config (writing_by event.op event.reply event.translation) m)) (memory-cut o past held) in
        let satps = tabulate-agree (satp cut (event ∷ [])) (satp o (event ∷ past)) o.config.harts
        (λ h inside. ap (latest (satp_by o.config event.op event.reply) (is_hart h event.actor)) (satps-cut o past held h inside)) in
        let caches = tabulate-agree (caches_of cut (event ∷ [])) (caches_of o (event ∷ past)) o.config.harts (λ h inside. caches-onward event h inside) in
        λ i. record {
          config = o.config;
          places = places i;
          harts = harts i;
          sstatus_sie = sstatus i;
          ssie = software i;
          stie = timer i;
          ssip = pending i;
          timers = timers-onward i;
          ram = words i;
          satps = satps i;
          caches = caches i;
          fences = fences-onward i;
          entered = entered-onward i;
          last_reset = last_reset o (event ∷ past);
        }
