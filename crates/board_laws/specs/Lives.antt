-- The live items in a hart's caches, and their origin (Privileged 4.2.1; Zifencei).
use Rattle.std.specs.Prelude.{◌≡◌, ℕ, ◌≤◌, false, List, [], ◌∷◌, ◌++◌, ◌⊎◌}
use Rattle.std.specs.List.{All, Contains}
use Rattle.tlb_model.specs.declared.fence.Flush.{Flush}
use Rattle.tlb_model.specs.declared.word.FetchWord.{FetchWord}
use Rattle.tlb_model.specs.Acts.{Act, Fill, Drop, Clear, Nothing}
use Rattle.tlb_model.specs.declared.cache.Numbered.{Numbered}
use Rattle.tlb_model.specs.Entries.{Entry, covers_entry}
use Rattle.tlb_model.specs.Words.{covers_word}
use Rattle.hart_access.specs.Translations.{Fetches, Fills}
use Rattle.board_core.specs.Opening.{Opening, place_after, tlb_at, words_at}
use Rattle.board_core.specs.Accesses.{cached, hit}
use Rattle.board_core.specs.History.{Event, Reach}
use Rattle.board_core.specs.Memory.{caches_of, memory, satp, tlb_acts, word_acts}
use Rattle.board_laws.specs.Places.{Accesses, past_at}

-- The live entries of hart t's TLB, and the live words of its instruction cache. The date of each is the place of the
-- event that filled it.
abbrev pub live_entries : Opening → List Event → (t : ℕ) → List (Numbered Entry)
live_entries o past t = (caches_of o past t).tlb.live

abbrev pub live_words : Opening → List Event → (t : ℕ) → List (Numbered FetchWord)
live_words o past t = (caches_of o past t).words.live

-- ---- where it comes from

-- An access by hart t filled the entry at its date. By the hart's satp of that date the access was translated and hit
-- nothing, the page tables in the memory of that date gave the entry's leaf, and the entry has that satp's ASID.
pub record EntryWasFilled (o : Opening) (past : List Event) (t : ℕ) (x : Numbered Entry) : Type 0 where
  pub reach : Reach
  pub made : Accesses o past x.date t reach
  pub fills : Fills (memory o (past_at o past x.date)) (satp o (past_at o past x.date) t)
      (hit o (past_at o past x.date) t) reach.va reach.access x.item

-- A fetch by hart t filled the word at its date, and the word is the one that the memory of that date had there.
pub record WordWasFilled (o : Opening) (past : List Event) (t : ℕ) (x : Numbered FetchWord) : Type 0 where
  pub reach : Reach
  pub made : Accesses o past x.date t reach
  pub fetches : Fetches (memory o (past_at o past x.date)) (satp o (past_at o past x.date) t)
      (hit o (past_at o past x.date) t) (cached o (past_at o past x.date) t) reach.va reach.access x.item

-- Each live item of a hart's caches was filled by one of its accesses, from the page tables or the memory of the item's
-- date, or was live there at the opening.
pub record LivesFromItsDate (o : Opening) (past : List Event) (t : ℕ) : Type 0 where
  pub entries : All (λ x. EntryWasFilled o past t x ⊎ Contains (tlb_at o t).live x) (live_entries o past t)
  pub words : All (λ x. WordWasFilled o past t x ⊎ Contains (words_at o t).live x) (live_words o past t)

-- ---- what ends it

-- the last thing that happened to a cache
abbrev pub last_act : {E : Type 0} → List (Act E) → Act E
last_act [] = Nothing
last_act (act ∷ acts) = act

-- an act that drops everything that the fence covers: the fence itself, or a clear
abbrev pub ActStrikes : {E : Type 0} → Flush → Act E → Type 0
ActStrikes flush (Fill item) = ⊥
ActStrikes flush (Drop other) = other ≡ flush
ActStrikes flush Clear = Unit {0}
ActStrikes flush Nothing = ⊥

-- At this place or later, the fence was applied to the caches of hart t, or they were emptied.
pub record Struck (o : Opening) (past : List Event) (t place : ℕ) (flush : Flush) : Type 0 where
  pub newer : List Event
  pub event : Event
  pub older : List Event
  pub made : past ≡ newer ++ event ∷ older
  pub since : place ≤ place_after o older
  pub entries : ActStrikes flush (last_act (tlb_acts o (event ∷ older) t))
  pub words : ActStrikes flush (last_act (word_acts o (event ∷ older) t))

-- Nothing is live in the caches of hart t that the fence covers and that was filled at this place or before.
pub record NoneLives (o : Opening) (past : List Event) (t place : ℕ) (flush : Flush) : Type 0 where
  pub entries : All (λ x. x.date ≤ place → covers_entry flush x.item ≡ false) (live_entries o past t)
  pub words : All (λ x. x.date ≤ place → covers_word flush x.item ≡ false) (live_words o past t)
