-- The possible words of a physical address, as a list that each event updates (Zifencei).
use Rattle.std.specs.Prelude.{◌≡◌, ℕ, List, [], ◌∷◌, ◌++◌, map, filter, if◌then◌else◌, Option, Some, None}
use Rattle.std.specs.List.{All}
use Rattle.rfence.specs.Applied.{Effect}
use Rattle.tlb_model.specs.declared.cache.Numbered.{Numbered}
use Rattle.tlb_model.specs.declared.fence.Flush.{Flush}
use Rattle.tlb_model.specs.declared.word.FetchWord.{FetchWord}
use Rattle.tlb_model.specs.Words.{is_at}
use Rattle.board_core.specs.History.{Event}
use Rattle.board_core.specs.Memory.{memory}
use Rattle.board_core.specs.Opening.{Opening, words_at}
use Rattle.any_tlb.specs.Effects.{effect_at}
use Rattle.any_tlb.specs.Words.{ends_words}

-- the memory's word, if the RAM has one
abbrev pub word_or_none : Option ℕ → List ℕ
word_or_none None = []
word_or_none (Some word) = word ∷ []

-- the words of the address that were live in the instruction cache of hart h at the opening
abbrev pub lived_words : Opening → (h pa : ℕ) → List ℕ
lived_words o h pa =
    map (λ (x : Numbered FetchWord). x.item.word) (filter (λ (x : Numbered FetchWord). is_at pa x.item) (words_at o h).live)

-- the watched words that an effect doesn't drop
abbrev pub spared_words : Effect Flush → List ℕ → List ℕ
spared_words done words = if ends_words done then [] else words

-- The watched words of a physical address in the instruction cache of hart h: those watched before the last event,
-- unless it applied a FENCE.I there or was a reset, and the memory's present one (Zifencei).
abbrev pub watched_words : Opening → List Event → (h pa : ℕ) → List ℕ
watched_words o [] h pa = lived_words o h pa ++ word_or_none (memory o [] pa)
watched_words o (event ∷ past) h pa =
    spared_words (effect_at o past event h) (watched_words o past h pa) ++ word_or_none (memory o (event ∷ past) pa)

-- Each watched word is the memory's present one.
abbrev pub WatchedWordsAgree : Opening → List Event → (h pa : ℕ) → Type 0
WatchedWordsAgree o past h pa = All (λ word. memory o past pa ≡ Some word) (watched_words o past h pa)
