-- What a machine that stands for a past says of it, and how much of it there is.
use Rattle.std.proofs.Common.{◌≡◌, ℕ, ◌^◌, ◌<◌, Bool, List, length, set, refl, ap, ◌∙◌, arith}
use Rattle.std.specs.Prelude.{Option, None, slice_index_or}
use Rattle.std.proofs.lemmas.List.FromFn.{get_or-map-range_with_len, length-map-range_with_len}
use Rattle.hart_mask.specs.Ids.{has, ids_where}
use Rattle.hart_mask.proofs.Sets.{has-ids_where}
use Rattle.interrupts.specs.Timing.{Timing, deadline_of, is_timer_pending}
use Rattle.board_rules.specs.Opening.{IsOpening, Opening, place_after, tlb_at, words_at}
use Rattle.board_machine.specs.declared.csrs.Csrs.{Csrs}
use Rattle.board_rules.specs.History.{Event}
use Rattle.board_machine.specs.declared.interrupt_state.Interrupts.{Interrupts}
use Rattle.board_machine.specs.declared.memory.Memory.{Memory}
use Rattle.board_rules.specs.Csrs.{enables, interrupt_bits, sie}
use Rattle.board_rules.specs.Interrupts.{deadline, ssip, stip, wake}
use Rattle.tlb_model.specs.declared.caches.Caches.{Caches}
use Rattle.board_rules.specs.Accesses.{cached, hit}
use Rattle.board_rules.specs.Memory.{satp, tlb_acts, word_acts}
use Rattle.board_machine.specs.Stands.{CanFill, CsrsStand, InterruptsStand, MemoryStand, TimersStand, caches_at, caches_of, no_caches, tlb_hit, word_hit}
use Rattle.board_rules.proofs.Lengths.{length-tlb_acts, length-word_acts, next-le}

-- ---- what the parts tell

module _ (o : Opening) (past : List Event) where
  pub bit-read : (p : ℕ → Bool) (set : List ℕ) (h : ℕ) → h < 128 → set ≡ ids_where p → has set h ≡ p h
  bit-read p set h below stand = ap (λ ids. has ids h) stand ∙ has-ids_where p h below

  pub length-deadlines : (timers : Timing) → TimersStand o past timers → length timers.deadlines ≡ o.config.harts
  length-deadlines timers stand = ap length stand.deadlines ∙ length-map-range_with_len (deadline o past) 0 o.config.harts

  pub length-caches : (m : Memory) → MemoryStand o past m → length m.caches.items ≡ o.config.harts
  length-caches m stand = ap length stand.caches ∙ length-map-range_with_len (caches_of o past) 0 o.config.harts

  pub caches-read : (m : Memory) (h : ℕ) → h < o.config.harts → MemoryStand o past m → caches_at m h ≡ caches_of o past h
  caches-read m h inside stand =
      ap (λ (xs : List Caches). slice_index_or xs h no_caches) stand.caches
      ∙ get_or-map-range_with_len (caches_of o past) 0 o.config.harts h h no_caches inside (omega arith)

  -- what is hit in them
  pub tlb_hit-read : (m : Memory) (h : ℕ) → h < o.config.harts → MemoryStand o past m → tlb_hit (caches_at m h) ≡ hit o past h
  tlb_hit-read m h inside stand = ap tlb_hit (caches-read m h inside stand)

  pub word_hit-read : (m : Memory) (h : ℕ) → h < o.config.harts → MemoryStand o past m → word_hit (caches_at m h) ≡ cached o past h
  word_hit-read m h inside stand = ap word_hit (caches-read m h inside stand)

  pub length-satps : (m : Memory) → MemoryStand o past m → length m.satps.items ≡ o.config.harts
  length-satps m stand = ap length stand.satps ∙ length-map-range_with_len (satp o past) 0 o.config.harts

  pub satp-read : (m : Memory) (h d : ℕ) → h < o.config.harts → MemoryStand o past m → slice_index_or m.satps.items h d ≡ satp o past h
  satp-read m h d inside stand =
      ap (λ (xs : List ℕ). slice_index_or xs h d) stand.satps
      ∙ get_or-map-range_with_len (satp o past) 0 o.config.harts h h d inside (omega arith)

  pub deadline-read : (timers : Timing) (h : ℕ) → h < o.config.harts → TimersStand o past timers → deadline_of timers h ≡ deadline o past h
  deadline-read timers h inside stand =
      ap (λ (ds : List (Option ℕ)). slice_index_or ds h None) stand.deadlines
      ∙ get_or-map-range_with_len (deadline o past) 0 o.config.harts h h None inside (omega arith)

  pub stip-read : (timers : Timing) (h : ℕ) → h < o.config.harts → TimersStand o past timers → is_timer_pending timers h ≡ stip o past h
  stip-read timers h inside stand = rw (stand.time, deadline-read timers h inside stand) refl

  pub sie-read : (csrs : Csrs) (h : ℕ) → h < 128 → CsrsStand o past csrs
      → record { ssie = has csrs.ssie h; stie = has csrs.stie h } ≡ sie o past h
  sie-read csrs h below stand =
      let software = bit-read (λ i. (sie o past i).ssie) csrs.ssie h below stand.ssie in
      let timer = bit-read (λ i. (sie o past i).stie) csrs.stie h below stand.stie in
      λ i. record { ssie = software i; stie = timer i }

  pub wake-read : (i : Interrupts) (h : ℕ) → h < 128 → h < o.config.harts → InterruptsStand o past i
      → enables (record { ssie = has i.csrs.ssie h; stie = has i.csrs.stie h }) (has i.ipis h) (is_timer_pending i.timers h) ≡ wake o past h
  wake-read i h below inside stands =
      let enabled = sie-read i.csrs h below stands.csrs in
      let software = bit-read (ssip o past) i.ipis h below stands.ipis.ssip in
      let timer = stip-read i.timers h inside stands.timers in
      λ j. enables (enabled j) (software j) (timer j)

  pub sip-read : (i : Interrupts) (h : ℕ) → h < 128 → h < o.config.harts → InterruptsStand o past i
      → interrupt_bits (has i.ipis h) (is_timer_pending i.timers h) ≡ interrupt_bits (ssip o past h) (stip o past h)
  sip-read i h below inside stands =
      let software = bit-read (ssip o past) i.ipis h below stands.ipis.ssip in
      let timer = stip-read i.timers h inside stands.timers in
      λ j. interrupt_bits (software j) (timer j)

-- ---- room

-- so a history of few events leaves room for one more
pub can-fill : (o : Opening) (past : List Event) (m : Memory) (h : ℕ) → h < o.config.harts → IsOpening o → place_after o past < 2 ^ 56 → MemoryStand o past m → CanFill m h
can-fill o past m h inside opens few stand =
    let own = caches-read o past m h inside stand in
    record {
      satps = omega (arith, length-satps o past m stand);
      caches = omega (arith, length-caches o past m stand);
      tlb =
          let next = ap (λ (caches : Caches). caches.tlb.next) own in
          let fills = next-le o.places (tlb_at o h) (tlb_acts o past h) in
          let before = opens.entries_few h in
          let acts = length-tlb_acts o past h in
          omega arith;
      words =
          let next = ap (λ (caches : Caches). caches.words.next) own in
          let fills = next-le o.places (words_at o h) (word_acts o past h) in
          let before = opens.words_few h in
          let acts = length-word_acts o past h in
          omega arith;
    }
