-- The words that an instruction cache may hold (Zifencei).
use Rattle.std.specs.Prelude.{◌≡◌, ◌⊎◌, ℕ, List, [], ◌∷◌, Bool, true, false, Option, Some}
use Rattle.std.specs.List.{All, Contains}
use Rattle.rfence.specs.Applied.{Effect, Nothing, Drops, Empties}
use Rattle.tlb_model.specs.declared.cache.Numbered.{Numbered}
use Rattle.tlb_model.specs.declared.fence.Flush.{Flush}
use Rattle.tlb_model.specs.declared.fence.Flush.TheVariants.{Words, Entries}
use Rattle.tlb_model.specs.declared.word.FetchWord.{FetchWord}
use Rattle.board_core.specs.Opening.{Opening, words_at}
use Rattle.board_core.specs.History.{Event}
use Rattle.board_core.specs.Memory.{memory}
use Rattle.board_laws.specs.Lives.{live_words}
use Rattle.any_tlb.specs.Effects.{effect_at}

-- The word was live in the instruction cache of hart h at the opening.
pub record WordLived (o : Opening) (h : ℕ) (fetched : FetchWord) : Type 0 where
  pub fill : Numbered FetchWord
  pub lived : Contains (words_at o h).live fill
  pub is : fill.item ≡ fetched

-- Whether an effect drops every fetched word: a FENCE.I does, and a reset (Zifencei; that a reset does: profile).
abbrev pub ends_words : Effect Flush → Bool
ends_words Nothing = false
ends_words (Drops Words) = true
ends_words (Drops (Entries fence)) = false
ends_words Empties = true

-- A word is possible if an instruction cache of hart h may hold it: the memory had it there since the last FENCE.I or
-- reset at the hart. At the opening, the words that are live there are possible, too (Zifencei).
abbrev pub PossibleWord : Opening → List Event → (h : ℕ) → FetchWord → Type 0
PossibleWord o [] h fetched = (memory o [] fetched.pa ≡ Some fetched.word) ⊎ WordLived o h fetched
PossibleWord o (event ∷ past) h fetched =
    (memory o (event ∷ past) fetched.pa ≡ Some fetched.word)
    ⊎ (PossibleWord o past h fetched × (ends_words (effect_at o past event h) ≡ false))

-- What an instruction cache of hart h may have, by physical addresses: nothing, so that a fetch reads the memory's
-- word, or a possible word of that address.
abbrev pub MayHave : Opening → List Event → (h : ℕ) → (words : ℕ → Option FetchWord) → Type 0
MayHave o past h words =
    (pa : ℕ) (fetched : FetchWord) → words pa ≡ Some fetched → (fetched.pa ≡ pa) × PossibleWord o past h fetched

-- Each live word in the instruction cache of hart h is possible.
abbrev pub LiveWordsArePossible : Opening → List Event → (h : ℕ) → Type 0
LiveWordsArePossible o past h = All (λ (fill : Numbered FetchWord). PossibleWord o past h fill.item) (live_words o past h)
