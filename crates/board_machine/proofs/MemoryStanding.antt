-- How memory and caches stand for one event more.
use Rattle.std.proofs.Common.{◌≡◌, ◌≢◌, ℕ, ◌+◌, Bool, true, false, List, ◌∷◌, suc, zero, length, map, replicate, refl, sym, ap, ◌∙◌}
use Rattle.std.specs.Prelude.{Option, Some, None, option_map, unwrap_or, if◌then◌else◌, slice_set}
use Rattle.std.specs.List.{range_with_len}
use Rattle.std.proofs.lemmas.List.FromFn.{length-map-range_with_len, length-range_with_len}
use Rattle.std.proofs.lemmas.Simd.{splat_is_map}
use Rattle.rfence.specs.Applied as effects
use Rattle.rfence.specs.Opening as fences
use Rattle.rfence.specs.Applied.{Effect, Drops, Empties, effect}
use Rattle.rfence.specs.Effects.{affected, caches_after, changed_from}
use Rattle.rfence.specs.Inside.HartCaches.{dropped_of, emptied_of}
use Rattle.rfence.specs.Right.{IsRightTurn}
use Rattle.rfence.specs.State.{AreAffected, State}
use Rattle.rfence.specs.Turns.{Turn, Own}
use Rattle.board_rules.specs.Opening.{Opening, place_after}
use Rattle.board_terms.specs.declared.op.Actor.TheVariants as actors
use Rattle.board_rules.specs.History.{Event}
use Rattle.sbi_abi.specs.declared.reset.Reset.{Reset}
use Rattle.board_machine.specs.declared.memory.Memory.{Memory}
use Rattle.board_rules.specs.Course.{harts_of}
use Rattle.board_rules.specs.Fences.{turns}
use Rattle.sv39.specs.Memory.{pages_of, word_in, zero_memory}
use Rattle.sv39.specs.Satp.{satp_of_write, satp_written}
use Rattle.tlb_model.specs.declared.caches.Caches.{Caches}
use Rattle.tlb_model.specs.declared.fence.Flush.{Flush}
use Rattle.tlb_model.specs.Acts.{Act, Drop, Nothing, acted}
use Rattle.tlb_model.specs.Contents.{fenced}
use Rattle.tlb_model.specs.Entries.{covers_entry}
use Rattle.tlb_model.specs.Words.{covers_word}
use Rattle.board_terms.specs.Limits.{spaces_of}
use Rattle.board_rules.specs.Memory.{act_by, memory, satp, satp_by, writing_by, written_by, Zeroed, zeroed_by}
use Rattle.board_machine.specs.Stands.{FencesStand, MemoryStand, caches_at, caches_of}
use Rattle.board_rules.specs.Resets.{is_cold}
use Rattle.board_rules.specs.Writes.{Everywhere, Here, latest}
use Rattle.board_rules.proofs.Events.{Deed, MemoryDeed, deed, still}
use Rattle.fence_queue.proofs.Tables.{tabulate-set}
use Rattle.board_rules.proofs.Tables.{eqb-other, eqb-same, tabulate-same}
use Rattle.board_rules.proofs.Caching.{caches-more, caches-same}

-- what a turn does to the two caches of a hart
acts-affect : (date : ℕ) (e : Effect Flush) (k : Caches)
    → record { tlb = acted covers_entry date k.tlb (act_by e None); words = acted covers_word date k.words (act_by e None) } ≡ affected dropped_of emptied_of e k
acts-affect date effects.Nothing k = refl
acts-affect date (Drops flush) k = refl
acts-affect date Empties k = refl

-- a fence of a hart by itself alone drops what it covers there, and nothing elsewhere
pub own-drops : {E : Type 0} (o : fences.Opening Flush) (all : List (Turn Flush)) (h : ℕ) (flush : Flush) → (let act : Act E = act_by (effect o all (Own h flush) h) None in act) ≡ Drop flush
own-drops o all h flush = rw (eqb-same h) refl

pub own-spares : {E : Type 0} (o : fences.Opening Flush) (all : List (Turn Flush)) (h : ℕ) (flush : Flush) (j : ℕ) → h ≢ j
    → (let act : Act E = act_by (effect o all (Own h flush) j) None in act) ≡ Nothing
own-spares o all h flush j other = rw (eqb-other h j other) refl

-- caches that are changed by index
tabulate-changed : {C : Type 0} (change : ℕ → C → C) (f : ℕ → C) (k n : ℕ) → changed_from change k (map f (range_with_len k n)) ≡ map (λ t. change t (f t)) (range_with_len k n)
tabulate-changed change f k zero = refl
tabulate-changed change f k (suc n) = ap (λ rest. change k (f k) ∷ rest) (tabulate-changed change f (k + 1) n)

-- ---- one event more

module _ (o : Opening) (past : List Event) (event : Event) (d : Deed) (does : deed o past event ≡ d) where
  -- what the event does, part by part
  writes_satp : satp_by o.config event.op event.reply ≡ d.memory.satp
  writes_satp = ap (λ (e : Deed). e.memory.satp) does

  writes : writing_by event.op event.reply event.translation ≡ d.memory.writing
  writes = ap (λ (e : Deed). e.memory.writing) does

  -- satp is written by its hart
  pub satps-written : (satps : List ℕ) (h value : ℕ) → event.actor ≡ actors.Hart h → d.memory.satp ≡ Some (Here value) → satps ≡ map (satp o past) (harts_of o.config)
      → slice_set satps h value ≡ map (satp o (event ∷ past)) (harts_of o.config)
  satps-written satps h value own written stand =
      ap (λ (xs : List ℕ). slice_set xs h value) stand
      ∙ ap (slice_set (map (satp o past) (harts_of o.config)) h) (sym (rw (writes_satp, written, own, eqb-same h) refl))
      ∙ tabulate-set (satp o past) (satp o (event ∷ past)) o.config.harts h
      (λ j other. rw (writes_satp, written, own, eqb-other j h (λ e. other (sym e))) refl)

  -- by a write, which may have no effect
  pub satps-put : (satps : List ℕ) (h value : ℕ) → event.actor ≡ actors.Hart h → d.memory.satp ≡ option_map Here (satp_of_write (spaces_of o.config) value)
      → satps ≡ map (satp o past) (harts_of o.config)
      → slice_set satps h (satp_written (spaces_of o.config) (satp o past h) value) ≡ map (satp o (event ∷ past)) (harts_of o.config)
  satps-put satps h value own written stand =
      ap (λ (xs : List ℕ). slice_set xs h (satp_written (spaces_of o.config) (satp o past h) value)) stand
      ∙ ap (slice_set (map (satp o past) (harts_of o.config)) h) (sym (rw (writes_satp, written, own, eqb-same h) (put (satp_of_write (spaces_of o.config) value) (satp o past h))))
      ∙ tabulate-set (satp o past) (satp o (event ∷ past)) o.config.harts h
      (λ j other. rw (writes_satp, written, own, eqb-other j h (λ e. other (sym e))) (spared (satp_of_write (spaces_of o.config) value) (satp o past j)))
    where
      put : (written : Option ℕ) (before : ℕ) → latest (option_map Here written) true before ≡ unwrap_or written before
      put (Some value) before = refl
      put None before = refl

      spared : (written : Option ℕ) (before : ℕ) → latest (option_map Here written) false before ≡ before
      spared (Some value) before = refl
      spared None before = refl

  pub satps-quiet : (satps : List ℕ) → d.memory.satp ≡ None → satps ≡ map (satp o past) (harts_of o.config) → satps ≡ map (satp o (event ∷ past)) (harts_of o.config)
  satps-quiet satps none stand = stand ∙ tabulate-same (satp o past) (satp o (event ∷ past)) (λ j. rw (writes_satp, none) refl) (harts_of o.config)

  pub ram-still : (ram : List ℕ) → d.memory.writing ≡ None → word_in ram ≡ memory o past → word_in ram ≡ memory o (event ∷ past)
  ram-still ram none stand = stand ∙ sym (ap (λ writing. written_by o.config writing (memory o past)) (writes ∙ none))

  pub caches-still : (caches : List Caches) → ((h : ℕ) → d.memory.tlb_act h ≡ Nothing) → ((h : ℕ) → d.memory.word_act h ≡ Nothing)
      → caches ≡ map (caches_of o past) (harts_of o.config) → caches ≡ map (caches_of o (event ∷ past)) (harts_of o.config)
  caches-still caches no_tlb no_words stand =
      stand ∙ tabulate-same (caches_of o past) (caches_of o (event ∷ past)) (λ j. caches-same o past event d does j (no_tlb j) (no_words j)) (harts_of o.config)

  -- those of one hart change, and no others
  pub caches-acted : (caches : List Caches) (h : ℕ) (changed : Caches) → ((j : ℕ) → h ≢ j → (d.memory.tlb_act j ≡ Nothing) × (d.memory.word_act j ≡ Nothing))
      → changed ≡ record {
        tlb = acted covers_entry (place_after o past) (caches_of o past h).tlb (d.memory.tlb_act h);
        words = acted covers_word (place_after o past) (caches_of o past h).words (d.memory.word_act h);
      }
      → caches ≡ map (caches_of o past) (harts_of o.config) → slice_set caches h changed ≡ map (caches_of o (event ∷ past)) (harts_of o.config)
  caches-acted caches h changed others is stand =
      ap (slice_set caches h) (is ∙ sym (caches-more o past event d does h))
      ∙ ap (λ (xs : List Caches). slice_set xs h (caches_of o (event ∷ past) h)) stand
      ∙ tabulate-set (caches_of o past) (caches_of o (event ∷ past)) o.config.harts h
      (λ j other. caches-same o past event d does j (others j other).0 (others j other).1)

  -- a fence of a hart by itself alone drops what it covers there
  pub caches-fenced : (m : Memory) (h : ℕ) (flush : Flush) → ((j : ℕ) → h ≢ j → (d.memory.tlb_act j ≡ Nothing) × (d.memory.word_act j ≡ Nothing)) → caches_at m h ≡ caches_of o past h
      → d.memory.tlb_act h ≡ Drop flush → d.memory.word_act h ≡ Drop flush → m.caches.items ≡ map (caches_of o past) (harts_of o.config)
      → slice_set m.caches.items h (record { tlb = fenced covers_entry (caches_at m h).tlb flush; words = fenced covers_word (caches_at m h).words flush })
      ≡ map (caches_of o (event ∷ past)) (harts_of o.config)
  caches-fenced m h flush others was tlb words stand =
      caches-acted m.caches.items h _ others
      ((λ i. record { tlb = fenced covers_entry (was i).tlb flush; words = fenced covers_word (was i).words flush })
      ∙ sym (λ i. record { tlb = acted covers_entry (place_after o past) (caches_of o past h).tlb (tlb i); words = acted covers_word (place_after o past) (caches_of o past h).words (words i) }))
      stand

  -- and what a turn makes of all of them
  pub caches-turned : (f : State Flush) (turn : Turn Flush) (caches changed : List Caches) → ((h : ℕ) → d.memory.tlb_act h ≡ act_by (effect o.fences (turns o past) turn h) None)
      → ((h : ℕ) → d.memory.word_act h ≡ act_by (effect o.fences (turns o past) turn h) None) → IsRightTurn o.fences o.config.harts (turns o past) turn → FencesStand o past f
      → AreAffected dropped_of emptied_of f turn caches changed → caches ≡ map (caches_of o past) (harts_of o.config) → changed ≡ map (caches_of o (event ∷ past)) (harts_of o.config)
  caches-turned f turn caches changed tlb words right stand are stand_for =
      are o.fences o.config.harts (turns o past) stand.stands (right, stand.right)
      ∙ ap (caches_after dropped_of emptied_of o.fences (turns o past) turn) stand_for
      ∙ tabulate-changed (λ t k. affected dropped_of emptied_of (effect o.fences (turns o past) turn t) k) (caches_of o past) 0 o.config.harts
      ∙ tabulate-same (λ t. affected dropped_of emptied_of (effect o.fences (turns o past) turn t) (caches_of o past t)) (caches_of o (event ∷ past))
      (λ t. caches-more o past event d does t ∙
      (λ i. record { tlb = acted covers_entry (place_after o past) (caches_of o past t).tlb (tlb t i); words = acted covers_word (place_after o past) (caches_of o past t).words (words t i) })
      ∙ acts-affect (place_after o past) (effect o.fences (turns o past) turn t) (caches_of o past t))
      (harts_of o.config)

  -- what changes satp alone, or caches alone
  pub memory-satps : (m m' : Memory) → d.memory ≡ record still.memory { satp = d.memory.satp } → MemoryStand o past m
      → m'.ram ≡ m.ram → m'.caches.items ≡ m.caches.items → m'.satps.items ≡ map (satp o (event ∷ past)) (harts_of o.config) → MemoryStand o (event ∷ past) m'
  memory-satps m m' alone stand ram caches satps = record {
    pages = ap pages_of ram ∙ stand.pages;
    ram = ap word_in ram ∙ ram-still m.ram (ap (λ (e : MemoryDeed). e.writing) alone) stand.ram;
    satps = satps;
    caches = caches ∙ caches-still m.caches.items (λ h. ap (λ (e : MemoryDeed). e.tlb_act h) alone) (λ h. ap (λ (e : MemoryDeed). e.word_act h) alone) stand.caches;
  }

  pub memory-caches : (m m' : Memory) → d.memory.writing ≡ None → d.memory.satp ≡ None → MemoryStand o past m
      → m'.ram ≡ m.ram → m'.satps.items ≡ m.satps.items → m'.caches.items ≡ map (caches_of o (event ∷ past)) (harts_of o.config) → MemoryStand o (event ∷ past) m'
  memory-caches m m' no_storing no_satp stand ram satps caches = record {
    pages = ap pages_of ram ∙ stand.pages;
    ram = ap word_in ram ∙ ram-still m.ram no_storing stand.ram;
    satps = satps ∙ satps-quiet m.satps.items no_satp stand.satps;
    caches = caches;
  }

  pub memory-still : (m : Memory) → d.memory ≡ still.memory → MemoryStand o past m → MemoryStand o (event ∷ past) m
  memory-still m none stand = record {
    pages = stand.pages;
    ram = ram-still m.ram (ap (λ (e : MemoryDeed). e.writing) none) stand.ram;
    satps = satps-quiet m.satps.items (ap (λ (e : MemoryDeed). e.satp) none) stand.satps;
    caches = caches-still m.caches.items (λ h. ap (λ (e : MemoryDeed). e.tlb_act h) none) (λ h. ap (λ (e : MemoryDeed). e.word_act h) none) stand.caches;
  }

  -- no hart has a satp, the RAM is cleared or stays, and the caches are as the turn leaves them
  pub memory-reset : (m m' : Memory) (reset : Reset) → d.memory.satp ≡ Some (Everywhere 0) → d.memory.writing ≡ zeroed_by (Some reset) → MemoryStand o past m
      → m'.satps.items ≡ replicate (length m.satps.items) 0 → word_in m'.ram ≡ (if is_cold reset.kind then zero_memory (pages_of m.ram) else word_in m.ram)
      → pages_of m'.ram ≡ pages_of m.ram → m'.caches.items ≡ map (caches_of o (event ∷ past)) (harts_of o.config) → MemoryStand o (event ∷ past) m'
  memory-reset m m' reset is writing stand satps ram pages caches =
      let long = length-map-range_with_len (satp o past) 0 o.config.harts in
      record {
        pages = pages ∙ stand.pages;
        ram =
            ram ∙ (λ i. if is_cold reset.kind then zero_memory (stand.pages i) else stand.ram i) ∙ zeroed (is_cold reset.kind)
            ∙ sym (ap (λ w. written_by o.config w (memory o past)) (writes ∙ writing));
        satps =
            satps ∙ ap (λ n. replicate n 0) (ap length stand.satps ∙ long)
            ∙ splat_is_map (harts_of o.config) o.config.harts 0 (length-range_with_len 0 o.config.harts)
            ∙ tabulate-same (λ j. 0) (satp o (event ∷ past)) (λ j. rw (writes_satp, is) refl) (harts_of o.config);
        caches = caches;
      }
    where
      zeroed : (cold : Bool) → (if cold then zero_memory o.config.pages else memory o past) ≡ written_by o.config (if cold then Some Zeroed else None) (memory o past)
      zeroed true = refl
      zeroed false = refl
