-- Words of which an instruction cache may hold another than the memory's (Zifencei).
use Rattle.std.specs.Prelude.{◌≡◌, ◌↔◌, ℕ, Bool, false, ◌==◌, ◌&&◌, ◌||◌, not, List, [], ◌∷◌, ◌++◌, filter, Option, Some, None}
use Rattle.std.specs.List.{fold}
use Rattle.tlb_model.specs.declared.fence.Flush.TheVariants as flushes
use Rattle.board_core.specs.History.{Event}
use Rattle.board_core.specs.Opening.{Opening}
use Rattle.any_tlb.specs.WatchedWords.{WatchedWordsAgree}
use Rattle.tlb_watch.specs.declared.effect.CacheEffect.{CacheEffect}
use Rattle.tlb_watch.specs.declared.effect.CacheEffect.TheVariants.{Nothing, Applied, Reset}
use Rattle.access_marks.specs.declared.words.WordNote.{WordNote}
use Rattle.access_marks.specs.declared.words.WordNote.TheVariants.{Changed, Fenced}

-- Whether hart h may hold another word of a physical address than the memory's, after one note more.
abbrev pub differs_by : (h pa : ℕ) → Bool → WordNote → Bool
differs_by h pa before (Changed at) = before || (at == pa)
differs_by h pa before (Fenced x) = before && not (x == h)

-- the same after all notes, of which the oldest comes first
abbrev pub differs : List WordNote → (h pa : ℕ) → Bool
differs notes h pa = fold (differs_by h pa) false notes

-- whether a note is this one
abbrev pub is_note : (note other : WordNote) → Bool
is_note (Changed at) (Changed place) = place == at
is_note (Fenced x) (Fenced hart) = hart == x
is_note note other = false

-- the notes with one more, and without older ones that are the same, which say nothing more
abbrev pub with_note : WordNote → List WordNote → List WordNote
with_note note notes = filter (λ other. not (is_note note other)) notes ++ note ∷ []

-- the notes after the word at a physical address changed, if one did
abbrev pub with_change : Option ℕ → List WordNote → List WordNote
with_change None notes = notes
with_change (Some at) notes = with_note (Changed at) notes

-- the notes after an effect on the harts' caches
abbrev pub with_effect : CacheEffect → List WordNote → List WordNote
with_effect Nothing notes = notes
with_effect (Applied x flushes.Words) notes = with_note (Fenced x) notes
with_effect (Applied x (flushes.Entries fence)) notes = notes
with_effect Reset notes = []

-- The notes tell which words are steady for fetches after a history.
abbrev pub AreNoted : Opening → List Event → List WordNote → Type 0
AreNoted o past notes = (h pa : ℕ) → (differs notes h pa ≡ false) ↔ WatchedWordsAgree o past h pa
