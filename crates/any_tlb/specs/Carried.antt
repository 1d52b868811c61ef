-- Watched lists that are carried over a cut of the history. An opening doesn't say what was possible before it, so
-- the lists continue from their former values (profile).
use Rattle.std.specs.Prelude.{ℕ, List, [], ◌∷◌, ◌++◌}
use Rattle.tlb_model.specs.Entries.{Entry}
use Rattle.board_core.specs.History.{Event}
use Rattle.board_core.specs.Memory.{memory, satp}
use Rattle.board_core.specs.Opening.{Opening}
use Rattle.any_tlb.specs.declared.watcher.Walking.{Walking}
use Rattle.any_tlb.specs.declared.watcher.Walking.TheVariants.{Had}
use Rattle.any_tlb.specs.Effects.{effect_at}
use Rattle.any_tlb.specs.Watch.{given_by, logged, spared}
use Rattle.any_tlb.specs.WatchedWords.{spared_words, word_or_none}

-- The log of hart h's walks after these events, continued from a kept log.
abbrev pub walks_from : (kept : List Walking) → Opening → List Event → (h : ℕ) → List Walking
walks_from kept o [] h = kept
walks_from kept o (event ∷ past) h =
    logged (effect_at o past event h) (walks_from kept o past h) ++ Had (satp o (event ∷ past) h) ∷ []

-- The watched entries of an address after these events, continued from those watched before and from a kept log.
abbrev pub watched_from : (before : List Entry) → (kept : List Walking) → Opening → List Event → (h va : ℕ) → List Entry
watched_from before kept o [] h va = before
watched_from before kept o (event ∷ past) h va =
    spared (effect_at o past event h) (watched_from before kept o past h va)
    ++ given_by (memory o (event ∷ past)) va [] (walks_from kept o (event ∷ past) h)

-- The watched words of a physical address after these events, continued from those watched before.
abbrev pub watched_words_from : (before : List ℕ) → Opening → List Event → (h pa : ℕ) → List ℕ
watched_words_from before o [] h pa = before
watched_words_from before o (event ∷ past) h pa =
    spared_words (effect_at o past event h) (watched_words_from before o past h pa)
    ++ word_or_none (memory o (event ∷ past) pa)
