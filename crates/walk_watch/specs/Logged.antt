-- What is kept of a history for walks of page tables: what stood before, and the fences since (Privileged 4.2.1, 4.3.2).
use Rattle.std.specs.Prelude.{◌≡◌, ℕ, ◌==◌, ◌&&◌, not, Bool, true, false, List, [], ◌∷◌, ◌++◌, filter, Option, Some, None}
use Rattle.rfence.specs.Applied.{Drops}
use Rattle.sv39.specs.Satp.{asid_of}
use Rattle.tlb_model.specs.declared.fence.Flush.{Flush}
use Rattle.tlb_model.specs.declared.fence.Flush.TheVariants.{Words, Entries}
use Rattle.board_core.specs.History.{Event}
use Rattle.board_core.specs.Memory.{memory, satp}
use Rattle.board_core.specs.Opening.{Opening}
use Rattle.any_tlb.specs.Effects.{effect_at}
use Rattle.any_tlb.specs.Mixed.{orders_pointers}
use Rattle.tlb_watch.specs.declared.effect.CacheEffect.{CacheEffect}
use Rattle.tlb_watch.specs.declared.effect.CacheEffect.TheVariants.{Nothing, Applied, Reset}
use Rattle.tlb_watch.specs.Effects.{effect_on}
use Rattle.walk_watch.specs.declared.former.FormerSatp.{FormerSatp}
use Rattle.walk_watch.specs.declared.former.FormerWord.{FormerWord}
use Rattle.walk_watch.specs.declared.former.WalkNote.{WalkNote}
use Rattle.walk_watch.specs.declared.former.WalkNote.TheVariants.{Was, Fence}
use Rattle.walk_watch.specs.declared.log.WalkLog.{WalkLog}

-- The satps that harts had before and by which walks that meet no G, or walks that meet G, may still begin; and the words that
-- the memory had before, among the fences, newest first.
pub record LoggedWalks : Type 0 where
  pub own : List FormerSatp
  pub global : List FormerSatp
  pub notes : List WalkNote

-- what a log has
abbrev pub listed : WalkLog → LoggedWalks
listed log = record { own = log.own.items; global = log.global.items; notes = log.notes.items }

-- no event yet
abbrev pub nothing_logged : LoggedWalks
nothing_logged = record { own = []; global = []; notes = [] }

-- ---- words

-- the notes after a word changed, if one did
abbrev pub with_word : Option FormerWord → List WalkNote → List WalkNote
with_word None notes = notes
with_word (Some word) notes = Was word ∷ notes

-- the notes after a fence was applied at hart x, if it is one of translations
abbrev pub with_fence : (x : ℕ) → Flush → List WalkNote → List WalkNote
with_fence x Words notes = notes
with_fence x (Entries fence) notes = Fence x (Entries fence) ∷ notes

-- The notes after an event that does this to caches, and changes this word.
abbrev pub notes_after : CacheEffect → Option FormerWord → List WalkNote → List WalkNote
notes_after Nothing word notes = with_word word notes
notes_after (Applied x flush) word notes = with_fence x flush (with_word word notes)
notes_after Reset word notes = []

-- ---- satps

-- whether two are the same satp of the same hart
abbrev pub is_same_satp : (a b : FormerSatp) → Bool
is_same_satp a b = (a.hart == b.hart) && (a.satp == b.satp)

-- the satps after one changed, if one did: each is kept once
abbrev pub with_former : Option FormerSatp → List FormerSatp → List FormerSatp
with_former None satps = satps
with_former (Some former) satps = filter (λ other. not (is_same_satp other former)) satps ++ former ∷ []

-- whether a fence at hart x orders a satp for walks that meet no G or, with `met`, for those that meet G
abbrev pub is_ordered : (met : Bool) → (x : ℕ) → Flush → FormerSatp → Bool
is_ordered met x flush former = (former.hart == x) && orders_pointers met (asid_of former.satp) (Drops flush)

-- The satps after an event that does this to caches, and changes this satp.
abbrev pub satps_after : (met : Bool) → CacheEffect → Option FormerSatp → List FormerSatp → List FormerSatp
satps_after met Nothing former satps = with_former former satps
satps_after met (Applied x flush) former satps =
    filter (λ former. not (is_ordered met x flush former)) (with_former former satps)
satps_after met Reset former satps = []

-- ---- events

-- This word changed, or none did.
abbrev pub IsFormerWord : (before after : ℕ → Option ℕ) → Option FormerWord → Type 0
IsFormerWord before after None = (pa : ℕ) → after pa ≡ before pa
IsFormerWord before after (Some former) =
    (former.word ≡ before former.at) × ((pa : ℕ) → (former.at ≡ pa → ⊥) → after pa ≡ before pa)

-- This hart's satp changed, or none did.
abbrev pub IsFormerSatp : (before after : ℕ → ℕ) → Option FormerSatp → Type 0
IsFormerSatp before after None = (h : ℕ) → after h ≡ before h
IsFormerSatp before after (Some former) =
    (former.satp ≡ before former.hart) × ((h : ℕ) → (former.hart ≡ h → ⊥) → after h ≡ before h)

-- The event brings a log to another: it did this to caches and, unless it was a reset, changed this word and this satp.
pub record LogsEvent (o : Opening) (past : List Event) (event : Event) (before after : LoggedWalks) : Type 0 where
  pub effect : CacheEffect
  pub word : Option FormerWord
  pub former : Option FormerSatp
  pub does : (h : ℕ) → effect_on effect h ≡ effect_at o past event h
  pub words : (effect ≡ Reset → ⊥) → IsFormerWord (memory o past) (memory o (event ∷ past)) word
  pub satps : (effect ≡ Reset → ⊥) → IsFormerSatp (satp o past) (satp o (event ∷ past)) former
  pub own : after.own ≡ satps_after false effect former before.own
  pub global : after.global ≡ satps_after true effect former before.global
  pub notes : after.notes ≡ notes_after effect word before.notes

-- The log is that of a history: each of its events was logged.
abbrev pub IsLogged : Opening → List Event → LoggedWalks → Type 0
IsLogged o [] log = log ≡ nothing_logged
IsLogged o (event ∷ past) log = (before : LoggedWalks) × IsLogged o past before × LogsEvent o past event before log
