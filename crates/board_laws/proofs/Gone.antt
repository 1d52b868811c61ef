-- What is gone once a fence was applied.
use Rattle.std.proofs.Common.{◌≡◌, ℕ, ◌+◌, ◌<◌, ◌≤◌, Bool, false, List, ◌∷◌, ◌++◌, length, length-append, sym, ap, ◌∙◌, arith}
use Rattle.std.specs.List.{All}
use Rattle.std.proofs.lemmas.List.Elements.{All-same, All-weaker}
use Rattle.tlb_model.specs.declared.fence.Flush.{Flush}
use Rattle.tlb_model.specs.declared.cache.Numbered.{Numbered}
use Rattle.tlb_model.specs.Contents.{Contents}
use Rattle.tlb_model.specs.Acts.{Act, Fill, Drop, Clear, Nothing, live}
use Rattle.tlb_model.specs.Entries.{covers_entry}
use Rattle.tlb_model.specs.Words.{covers_word}
use Rattle.tlb_model.proofs.Living.{cleared_is_gone, covered_is_gone}
use Rattle.board_core.specs.Opening.{Opening, place_after, tlb_at, words_at}
use Rattle.board_core.specs.Memory.{tlb_acts, word_acts}
use Rattle.board_core.specs.History.{Event}
use Rattle.board_laws.specs.Lives.{NoneLives, ActStrikes, Struck}
use Rattle.board_laws.proofs.Acts.{OneForEach, one_tlb_act, one_word_act, length-seen, split-at}

module _ {E : Type 0} (first : ℕ) (opening : Contents E) (covers : Flush → E → Bool) where
  by-act : (place : ℕ) (flush : Flush) (newer : List (Act E)) (act : Act E) (older : List (Act E)) → place ≤ first + length older → ActStrikes flush act
      → All (λ (x : Numbered E). x.date ≤ place → covers flush x.item ≡ false) (live first opening covers (newer ++ act ∷ older))
  by-act place flush newer (Fill item) older since strikes = absurd strikes
  by-act place flush newer (Drop other) older since strikes =
      All-weaker (λ (x : Numbered E). x.date ≤ first + length older → covers other x.item ≡ false) (λ (x : Numbered E). x.date ≤ place → covers flush x.item ≡ false)
      (λ x gone early. ap (λ f. covers f x.item) (sym strikes) ∙ gone (omega arith)) (live first opening covers (newer ++ Drop other ∷ older)) (covered_is_gone first opening covers newer other older)
  by-act place flush newer Clear older since strikes =
      All-weaker (λ (x : Numbered E). first + length older < x.date) (λ (x : Numbered E). x.date ≤ place → covers flush x.item ≡ false)
      (λ x later early. absurd (omega arith)) (live first opening covers (newer ++ Clear ∷ older)) (cleared_is_gone first opening covers newer older)
  by-act place flush newer Nothing older since strikes = absurd strikes

  by-event : (acts : List Event → List (Act E)) (are : OneForEach acts) (place : ℕ) (flush : Flush) (past newer : List Event) (event : Event) (older : List Event)
      → past ≡ newer ++ event ∷ older → place ≤ first + length older → ActStrikes flush (are.of event older)
      → All (λ (x : Numbered E). x.date ≤ place → covers flush x.item ≡ false) (live first opening covers (acts past))
  by-event acts are place flush past newer event older made since strikes =
      let split = split-at acts are newer event older in
      let size = length-seen acts are older in
      All-same (λ (x : Numbered E). x.date ≤ place → covers flush x.item ≡ false) (live first opening covers (acts past)) (live first opening covers (split.later ++ are.of event older ∷ acts older))
      (ap (λ xs. live first opening covers (acts xs)) made ∙ ap (live first opening covers) split.made)
      (by-act place flush split.later (are.of event older) (acts older) (omega arith) strikes)

pub struck_is_gone : (o : Opening) (past : List Event) (t place : ℕ) (flush : Flush) → Struck o past t place flush → NoneLives o past t place flush
struck_is_gone o past t place flush struck = record {
  entries = by-event o.places (tlb_at o t) covers_entry (λ past. tlb_acts o past t) (one_tlb_act o t) place flush past struck.newer struck.event struck.older struck.made struck.since struck.entries;
  words = by-event o.places (words_at o t) covers_word (λ past. word_acts o past t) (one_word_act o t) place flush past struck.newer struck.event struck.older struck.made struck.since struck.words;
}

-- and the place of the strike, like any event's, is before the end
pub struck-within : (o : Opening) (past : List Event) (t place : ℕ) (flush : Flush) → Struck o past t place flush → place < place_after o past
struck-within o past t place flush struck =
    let since = struck.since in
    let size = ap length struck.made ∙ length-append struck.newer (struck.event ∷ struck.older) in
    omega arith
