-- What one event more does to the caches of a hart.
use Rattle.std.proofs.Common.{◌≡◌, ℕ, ◌+◌, false, List, ◌∷◌, refl, ap, ◌∙◌}
use Rattle.std.specs.Prelude.{Option, Some, None}
use Rattle.rfence.specs.Applied.{effect}
use Rattle.board_rules.specs.Opening.{Opening, place_after, tlb_at, words_at}
use Rattle.board_rules.specs.History.{Event}
use Rattle.board_rules.specs.Course.{is_hart}
use Rattle.board_rules.specs.Fences.{turn_of, turns}
use Rattle.tlb_model.specs.Acts.{Nothing, acted}
use Rattle.tlb_model.specs.Entries.{covers_entry}
use Rattle.tlb_model.specs.Words.{covers_word}
use Rattle.tlb_model.proofs.Living.{keeps_what_lives}
use Rattle.board_rules.specs.Memory.{caches_of, act_by, cached_in, entry_filling, hit_in, own_filling, memory, satp, tlb_acts, word_acts, word_filling}
use Rattle.board_rules.proofs.Events.{Deed, deed}
use Rattle.board_rules.proofs.Lengths.{length-tlb_acts, length-word_acts}

-- an access of another hart fills nothing in a cache
pub filled-elsewhere : {E : Type 0} (filling : Option E) → own_filling false filling ≡ None
filled-elsewhere None = refl
filled-elsewhere (Some item) = refl

module _ (o : Opening) (past : List Event) (event : Event) (d : Deed) (does : deed o past event ≡ d) where
  -- what the event does, part by part
  acts_on_tlb : (h : ℕ)
      → act_by (effect o.fences (turns o past) (turn_of o past event.actor event.op event.reply) h)
      (own_filling (is_hart h event.actor) (entry_filling event.op event.translation (satp o past h) (hit_in o h (tlb_acts o past h)))) ≡ d.memory.tlb_act h
  acts_on_tlb h = ap (λ (e : Deed). e.memory.tlb_act h) does

  acts_on_words : (h : ℕ)
      → act_by (effect o.fences (turns o past) (turn_of o past event.actor event.op event.reply) h)
      (own_filling (is_hart h event.actor) (word_filling event.op event.reply event.translation (memory o past) (cached_in o h (word_acts o past h)))) ≡ d.memory.word_act h
  acts_on_words h = ap (λ (e : Deed). e.memory.word_act h) does

  -- the caches of a hart after the event
  pub caches-more : (h : ℕ) → caches_of o (event ∷ past) h
      ≡ record {
        tlb = acted covers_entry (place_after o past) (caches_of o past h).tlb (d.memory.tlb_act h);
        words = acted covers_word (place_after o past) (caches_of o past h).words (d.memory.word_act h);
      }
  caches-more h =
      let tlb = keeps_what_lives o.places (tlb_at o h) covers_entry _ (tlb_acts o past h)
      ∙ (λ i. acted covers_entry (o.places + length-tlb_acts o past h i) (caches_of o past h).tlb (acts_on_tlb h i)) in
      let words = keeps_what_lives o.places (words_at o h) covers_word _ (word_acts o past h)
      ∙ (λ i. acted covers_word (o.places + length-word_acts o past h i) (caches_of o past h).words (acts_on_words h i)) in
      λ i. record { tlb = tlb i; words = words i }

  pub caches-same : (h : ℕ) → d.memory.tlb_act h ≡ Nothing → d.memory.word_act h ≡ Nothing → caches_of o (event ∷ past) h ≡ caches_of o past h
  caches-same h no_tlb no_words =
      caches-more h ∙ (λ i. record {
        tlb = acted covers_entry (place_after o past) (caches_of o past h).tlb (no_tlb i);
        words = acted covers_word (place_after o past) (caches_of o past h).words (no_words i);
      })
