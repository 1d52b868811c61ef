-- How interrupts, and what enables them, stand for one event more.
use Rattle.std.proofs.Common.{◌≡◌, ℕ, ◌+◌, ◌<◌, Bool, true, false, List, [], ◌∷◌, length, set, map, replicate, refl, sym, ap, ◌∙◌, arith}
use Rattle.std.specs.Prelude.{Option, Some, None, not, ◌==◌, ◌&&◌, ◌||◌, if◌then◌else◌, slice_set}
use Rattle.std.proofs.lemmas.List.FromFn.{length-map-range_with_len, length-range_with_len}
use Rattle.std.proofs.lemmas.Simd.{splat_is_map}
use Rattle.hart_mask.specs.Ids.{has, ids_where, union_of, with_bit, without_id}
use Rattle.hart_mask.proofs.Sets.{has-ids_where, ids_where-agree, ids_where-none, with_bit-by, without_id-by}
use Rattle.interrupts.specs.Timing.{Timing, with_deadline, without_deadlines}
use Rattle.board_rules.specs.Opening.{Opening}
use Rattle.board_machine.specs.declared.csrs.Csrs.{Csrs}
use Rattle.board_rules.specs.declared.sie.Sie.{Sie}
use Rattle.board_terms.specs.declared.op.Actor.TheVariants as actors
use Rattle.board_rules.specs.History.{Event}
use Rattle.board_machine.specs.declared.interrupt_state.Interrupts.{Interrupts}
use Rattle.board_rules.specs.Course.{harts_of}
use Rattle.board_rules.specs.Csrs.{none_enabled, sie, sie_by, sstatus_sie, sstatus_sie_by}
use Rattle.board_rules.specs.Interrupts.{deadline, deadline_by, reaches_by, ssip, ssip_by, ticks_by}
use Rattle.tlb_model.specs.Contents.{cleared}
use Rattle.board_machine.specs.Stands.{CsrsStand, InterruptsStand, IpisStand, TimersStand}
use Rattle.board_rules.specs.States.{is_starting}
use Rattle.board_rules.specs.Writes.{Everywhere, Here}
use Rattle.board_rules.proofs.Events.{Deed, InterruptsDeed, deed, still}
use Rattle.fence_queue.proofs.Tables.{tabulate-set}
use Rattle.board_rules.proofs.Tables.{eqb-other, eqb-same, tabulate-same}

module _ (o : Opening) (past : List Event) (event : Event) (d : Deed) (does : deed o past event ≡ d) where
  -- what the event does, part by part
  writes_sstatus : sstatus_sie_by event.op event.reply ≡ d.interrupts.sstatus
  writes_sstatus = ap (λ (e : Deed). e.interrupts.sstatus) does

  writes_sie : sie_by event.op event.reply (is_starting o past event.actor) ≡ d.interrupts.sie
  writes_sie = ap (λ (e : Deed). e.interrupts.sie) does

  writes_ssip : ssip_by event.op event.reply (is_starting o past event.actor) ≡ d.interrupts.ssip
  writes_ssip = ap (λ (e : Deed). e.interrupts.ssip) does

  sets : deadline_by event.op event.reply (is_starting o past event.actor) ≡ d.interrupts.deadline
  sets = ap (λ (e : Deed). e.interrupts.deadline) does

  ticks : ticks_by event.op ≡ d.interrupts.ticks
  ticks = ap (λ (e : Deed). e.interrupts.ticks) does

  reaches : (h : ℕ) → reaches_by o past event.op event.reply h ≡ d.interrupts.reach h
  reaches h = ap (λ (e : Deed). e.interrupts.reach h) does

  -- ---- registers

  module _ (h : ℕ) (own : event.actor ≡ actors.Hart h) where
    pub sstatus_sie-written : (set : List ℕ) (value : Bool) → d.interrupts.sstatus ≡ Some (Here value) → set ≡ ids_where (sstatus_sie o past)
        → with_bit set h value ≡ ids_where (sstatus_sie o (event ∷ past))
    sstatus_sie-written set value written stand =
        ap (λ ids. with_bit ids h value) stand
        ∙ with_bit-by (sstatus_sie o past) (sstatus_sie o (event ∷ past)) h value (λ i below. rw (writes_sstatus, written, own) refl)

    pub ssie-written : (set : List ℕ) (value : Sie) → d.interrupts.sie ≡ Some (Here value) → set ≡ ids_where (λ i. (sie o past i).ssie)
        → with_bit set h value.ssie ≡ ids_where (λ i. (sie o (event ∷ past) i).ssie)
    ssie-written set value written stand =
        ap (λ ids. with_bit ids h value.ssie) stand
        ∙ with_bit-by (λ i. (sie o past i).ssie) (λ i. (sie o (event ∷ past) i).ssie) h value.ssie
        (λ i below. rw (writes_sie, written, own) (ssie-of (i == h) value (sie o past i)))
      where
        ssie-of : (b : Bool) (s t : Sie) → (if b then s.ssie else t.ssie) ≡ (if b then s else t).ssie
        ssie-of true s t = refl
        ssie-of false s t = refl

    pub stie-written : (set : List ℕ) (value : Sie) → d.interrupts.sie ≡ Some (Here value) → set ≡ ids_where (λ i. (sie o past i).stie)
        → with_bit set h value.stie ≡ ids_where (λ i. (sie o (event ∷ past) i).stie)
    stie-written set value written stand =
        ap (λ ids. with_bit ids h value.stie) stand
        ∙ with_bit-by (λ i. (sie o past i).stie) (λ i. (sie o (event ∷ past) i).stie) h value.stie
        (λ i below. rw (writes_sie, written, own) (stie-of (i == h) value (sie o past i)))
      where
        stie-of : (b : Bool) (s t : Sie) → (if b then s.stie else t.stie) ≡ (if b then s else t).stie
        stie-of true s t = refl
        stie-of false s t = refl

    -- SSIP is cleared
    pub ipis-cleared : (ipis : List ℕ) → d.interrupts.ssip ≡ Some (Here false) → ((i : ℕ) → d.interrupts.reach i ≡ false) → IpisStand o past ipis → IpisStand o (event ∷ past) (without_id ipis h)
    ipis-cleared ipis cleared none stand = record {
      ssip =
          ap (λ ids. without_id ids h) stand.ssip
          ∙ without_id-by (ssip o past) (ssip o (event ∷ past)) h
          (λ i below. rw (reaches i, none i, writes_ssip, cleared, own) (out_or (i == h) (ssip o past i)));
    }
      where
        out_or : (here before : Bool) → (not here && before) ≡ (if here then false else before)
        out_or true before = refl
        out_or false before = refl

    -- the deadline is set, or forgotten
    pub timers-set : (timers : Timing) (value : Option ℕ) → d.interrupts.deadline ≡ Some (Here value) → d.interrupts.ticks ≡ 0 → TimersStand o past timers
        → TimersStand o (event ∷ past) (with_deadline timers h value)
    timers-set timers value set no_ticks stand = record {
      time = stand.time ∙ rw (ticks, no_ticks) (omega arith);
      deadlines =
          ap (λ (ds : List (Option ℕ)). slice_set ds h value) stand.deadlines
          ∙ ap (slice_set (map (deadline o past) (harts_of o.config)) h) (sym (rw (sets, set, own, eqb-same h) refl))
          ∙ tabulate-set (deadline o past) (deadline o (event ∷ past)) o.config.harts h
          (λ j other. rw (sets, set, own, eqb-other j h (λ e. other (sym e))) refl);
    }

  pub sstatus_sie-quiet : (set : List ℕ) → d.interrupts.sstatus ≡ None → set ≡ ids_where (sstatus_sie o past) → set ≡ ids_where (sstatus_sie o (event ∷ past))
  sstatus_sie-quiet set none stand = stand ∙ ids_where-agree (sstatus_sie o past) (sstatus_sie o (event ∷ past)) (λ i below. rw (writes_sstatus, none) refl)

  pub ssie-quiet : (set : List ℕ) → d.interrupts.sie ≡ None → set ≡ ids_where (λ i. (sie o past i).ssie) → set ≡ ids_where (λ i. (sie o (event ∷ past) i).ssie)
  ssie-quiet set none stand = stand ∙ ids_where-agree (λ i. (sie o past i).ssie) (λ i. (sie o (event ∷ past) i).ssie) (λ i below. rw (writes_sie, none) refl)

  pub stie-quiet : (set : List ℕ) → d.interrupts.sie ≡ None → set ≡ ids_where (λ i. (sie o past i).stie) → set ≡ ids_where (λ i. (sie o (event ∷ past) i).stie)
  stie-quiet set none stand = stand ∙ ids_where-agree (λ i. (sie o past i).stie) (λ i. (sie o (event ∷ past) i).stie) (λ i below. rw (writes_sie, none) refl)

  pub csrs-quiet : (csrs : Csrs) → d.interrupts.sstatus ≡ None → d.interrupts.sie ≡ None → CsrsStand o past csrs → CsrsStand o (event ∷ past) csrs
  csrs-quiet csrs no_sstatus no_sie stand = record {
    sstatus_sie = sstatus_sie-quiet csrs.sstatus_sie no_sstatus stand.sstatus_sie;
    ssie = ssie-quiet csrs.ssie no_sie stand.ssie;
    stie = stie-quiet csrs.stie no_sie stand.stie;
  }

  -- ---- interrupts

  pub ipis-quiet : (ipis : List ℕ) → d.interrupts.ssip ≡ None → ((i : ℕ) → d.interrupts.reach i ≡ false) → IpisStand o past ipis → IpisStand o (event ∷ past) ipis
  ipis-quiet ipis none no_reach stand = record {
    ssip = stand.ssip ∙ ids_where-agree (ssip o past) (ssip o (event ∷ past)) (λ i below. rw (reaches i, no_reach i, writes_ssip, none) refl);
  }

  pub ipis-sent : (ipis targets : List ℕ) → d.interrupts.ssip ≡ None → ((i : ℕ) → i < 128 → has targets i ≡ d.interrupts.reach i) → IpisStand o past ipis
      → IpisStand o (event ∷ past) (union_of ipis targets)
  ipis-sent ipis targets none reached stand = record {
    ssip =
        ap (λ ids. union_of ids targets) stand.ssip
        ∙ ids_where-agree _ (ssip o (event ∷ past)) (λ i below.
        ap (λ b. b || has targets i) (has-ids_where (ssip o past) i below)
        ∙ ap (λ b. ssip o past i || b) (reached i below)
        ∙ rw (reaches i, writes_ssip, none) (either_way (ssip o past i) (d.interrupts.reach i)));
  }
    where
      either_way : (a b : Bool) → (a || b) ≡ (b || a)
      either_way true true = refl
      either_way true false = refl
      either_way false true = refl
      either_way false false = refl

  pub timers-quiet : (timers : Timing) → d.interrupts.deadline ≡ None → d.interrupts.ticks ≡ 0 → TimersStand o past timers → TimersStand o (event ∷ past) timers
  timers-quiet timers none no_ticks stand = record {
    time = stand.time ∙ rw (ticks, no_ticks) (omega arith);
    deadlines = stand.deadlines ∙ tabulate-same (deadline o past) (deadline o (event ∷ past)) (λ j. rw (sets, none) refl) (harts_of o.config);
  }

  -- the time goes on
  pub timers-ticked : (timers : Timing) (n : ℕ) → d.interrupts.deadline ≡ None → d.interrupts.ticks ≡ n → TimersStand o past timers
      → TimersStand o (event ∷ past) (record timers { time = timers.time + n })
  timers-ticked timers n none ticked stand = record {
    time = ap (λ t. t + n) stand.time ∙ rw (ticks, ticked) refl;
    deadlines = stand.deadlines ∙ tabulate-same (deadline o past) (deadline o (event ∷ past)) (λ j. rw (sets, none) refl) (harts_of o.config);
  }

  -- what changes the registers alone, pending software interrupts alone, or the time or a deadline alone
  pub interrupts-csrs : (i : Interrupts) (csrs : Csrs) → d.interrupts ≡ record still.interrupts { sstatus = d.interrupts.sstatus; sie = d.interrupts.sie }
      → InterruptsStand o past i → CsrsStand o (event ∷ past) csrs → InterruptsStand o (event ∷ past) (record i { csrs = csrs })
  interrupts-csrs i csrs alone stands changed = record {
    csrs = changed;
    ipis = ipis-quiet i.ipis (ap (λ (e : InterruptsDeed). e.ssip) alone) (λ h. ap (λ (e : InterruptsDeed). e.reach h) alone) stands.ipis;
    timers = timers-quiet i.timers (ap (λ (e : InterruptsDeed). e.deadline) alone) (ap (λ (e : InterruptsDeed). e.ticks) alone) stands.timers;
  }

  pub interrupts-ipis : (i : Interrupts) (ipis : List ℕ) → d.interrupts ≡ record still.interrupts { ssip = d.interrupts.ssip; reach = d.interrupts.reach }
      → InterruptsStand o past i → IpisStand o (event ∷ past) ipis → InterruptsStand o (event ∷ past) (record i { ipis = ipis })
  interrupts-ipis i ipis alone stands changed = record {
    csrs = csrs-quiet i.csrs (ap (λ (e : InterruptsDeed). e.sstatus) alone) (ap (λ (e : InterruptsDeed). e.sie) alone) stands.csrs;
    ipis = changed;
    timers = timers-quiet i.timers (ap (λ (e : InterruptsDeed). e.deadline) alone) (ap (λ (e : InterruptsDeed). e.ticks) alone) stands.timers;
  }

  pub interrupts-timers : (i : Interrupts) (timers : Timing) → d.interrupts ≡ record still.interrupts { deadline = d.interrupts.deadline; ticks = d.interrupts.ticks }
      → InterruptsStand o past i → TimersStand o (event ∷ past) timers → InterruptsStand o (event ∷ past) (record i { timers = timers })
  interrupts-timers i timers alone stands changed = record {
    csrs = csrs-quiet i.csrs (ap (λ (e : InterruptsDeed). e.sstatus) alone) (ap (λ (e : InterruptsDeed). e.sie) alone) stands.csrs;
    ipis = ipis-quiet i.ipis (ap (λ (e : InterruptsDeed). e.ssip) alone) (λ h. ap (λ (e : InterruptsDeed). e.reach h) alone) stands.ipis;
    timers = changed;
  }

  pub interrupts-still : (i : Interrupts) → d.interrupts ≡ still.interrupts → InterruptsStand o past i → InterruptsStand o (event ∷ past) i
  interrupts-still i none stands = record {
    csrs = csrs-quiet i.csrs (ap (λ (e : InterruptsDeed). e.sstatus) none) (ap (λ (e : InterruptsDeed). e.sie) none) stands.csrs;
    ipis = ipis-quiet i.ipis (ap (λ (e : InterruptsDeed). e.ssip) none) (λ h. ap (λ (e : InterruptsDeed). e.reach h) none) stands.ipis;
    timers = timers-quiet i.timers (ap (λ (e : InterruptsDeed). e.deadline) none) (ap (λ (e : InterruptsDeed). e.ticks) none) stands.timers;
  }

  -- nothing is enabled, nothing is pending, no hart has a deadline, and the time goes on
  pub interrupts-reset : (i : Interrupts) → d.interrupts ≡ record still.interrupts {
    sstatus = Some (Everywhere false);
    sie = Some (Everywhere none_enabled);
    ssip = Some (Everywhere false);
    deadline = Some (Everywhere None);
  } → InterruptsStand o past i
      → InterruptsStand o (event ∷ past) (record { csrs = record { sstatus_sie = []; ssie = []; stie = [] }; ipis = []; timers = without_deadlines i.timers })
  interrupts-reset i is stands =
      let sstatus = ap (λ (e : InterruptsDeed). e.sstatus) is in
      let enabled = ap (λ (e : InterruptsDeed). e.sie) is in
      let pending = ap (λ (e : InterruptsDeed). e.ssip) is in
      let deadlines = ap (λ (e : InterruptsDeed). e.deadline) is in
      let no_ticks = ap (λ (e : InterruptsDeed). e.ticks) is in
      let long = length-map-range_with_len (deadline o past) 0 o.config.harts in
      record {
        csrs = record {
          sstatus_sie = sym (ids_where-none (sstatus_sie o (event ∷ past)) (λ j below. rw (writes_sstatus, sstatus) refl));
          ssie = sym (ids_where-none (λ h. (sie o (event ∷ past) h).ssie) (λ j below. rw (writes_sie, enabled) refl));
          stie = sym (ids_where-none (λ h. (sie o (event ∷ past) h).stie) (λ j below. rw (writes_sie, enabled) refl));
        };
        ipis = record { ssip = sym (ids_where-none (ssip o (event ∷ past)) (λ j below. rw (reaches j, ap (λ (e : InterruptsDeed). e.reach j) is, writes_ssip, pending) refl)) };
        timers = record {
          time = stands.timers.time ∙ rw (ticks, no_ticks) (omega arith);
          deadlines =
              ap (λ n. replicate n None) (ap length stands.timers.deadlines ∙ long)
              ∙ splat_is_map (harts_of o.config) o.config.harts None (length-range_with_len 0 o.config.harts)
              ∙ tabulate-same (λ j. None) (deadline o (event ∷ past)) (λ j. rw (sets, deadlines) refl) (harts_of o.config);
        };
      }
