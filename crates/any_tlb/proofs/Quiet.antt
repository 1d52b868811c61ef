-- Events after which the same is possible as before.
use Rattle.std.proofs.Common.{◌≡◌, ℕ, List, [], ◌∷◌, subst, sym, ap, ◌∙◌, Option, Some, inl, inr}
use Rattle.std.specs.Prelude.{◌↔◌}
use Rattle.tlb_model.specs.declared.word.FetchWord.{FetchWord}
use Rattle.tlb_model.specs.Entries.{Entry}
use Rattle.board_core.specs.History.{Event}
use Rattle.board_core.specs.Memory.{memory, satp}
use Rattle.board_core.specs.Opening.{Opening}
use Rattle.any_tlb.specs.Effects.{MaySee}
use Rattle.any_tlb.specs.Possible.{IsGiven, IsWalkedTo, Possible, leaves_no_copy}
use Rattle.any_tlb.specs.Quiet.{HasNoEffect}
use Rattle.any_tlb.specs.Words.{PossibleWord, ends_words}
use Rattle.any_tlb.proofs.Seen.{seen-now}

module _ (o : Opening) (event : Event) (past : List Event) (h : ℕ) (quiet : HasNoEffect o event past h) where
  walked-before : (entry : Entry) → IsWalkedTo o (event ∷ past) h entry → IsWalkedTo o past h entry
  walked-before entry w = record {
    by_satp = w.by_satp;
    had = by_place w.had;
    given = subst (λ m. IsGiven m w.by_satp entry) quiet.memory w.given;
  }
    where
      by_place : MaySee (λ past. satp o past h) (λ done. leaves_no_copy done entry) o (event ∷ past) h w.by_satp → MaySee (λ past. satp o past h) (λ done. leaves_no_copy done entry) o past h w.by_satp
      by_place (inl is) = seen-now (λ past. satp o past h) (λ done. leaves_no_copy done entry) o past h w.by_satp (sym quiet.satp ∙ is)
      by_place (inr before) = before.0

  walked-possible : (past : List Event) (entry : Entry) → IsWalkedTo o past h entry → Possible o past h entry
  walked-possible [] entry walked = inl walked
  walked-possible (event ∷ past) entry walked = inl walked

  possible-before : (entry : Entry) → Possible o (event ∷ past) h entry → Possible o past h entry
  possible-before entry (inl walked) = walked-possible past entry (walked-before entry walked)
  possible-before entry (inr before) = before.0

  possible-after : (entry : Entry) → Possible o past h entry → Possible o (event ∷ past) h entry
  possible-after entry possible = inr (possible, ap (λ done. leaves_no_copy done entry) quiet.effect)

  held-possible : (past : List Event) (fetched : FetchWord) → memory o past fetched.pa ≡ Some fetched.word → PossibleWord o past h fetched
  held-possible [] fetched is = inl is
  held-possible (event ∷ past) fetched is = inl is

  word-before : (fetched : FetchWord) → PossibleWord o (event ∷ past) h fetched → PossibleWord o past h fetched
  word-before fetched (inl is) = held-possible past fetched (ap (λ (m : ℕ → Option ℕ). m fetched.pa) (sym quiet.memory) ∙ is)
  word-before fetched (inr before) = before.0

  word-after : (fetched : FetchWord) → PossibleWord o past h fetched → PossibleWord o (event ∷ past) h fetched
  word-after fetched possible = inr (possible, ap ends_words quiet.effect)

pub quiet_events_change_nothing : (o : Opening) (event : Event) (past : List Event) (h : ℕ) (entry : Entry) → HasNoEffect o event past h → Possible o (event ∷ past) h entry ↔ Possible o past h entry
quiet_events_change_nothing o event past h entry quiet = (possible-before o event past h quiet entry, possible-after o event past h quiet entry)

pub quiet_events_change_no_word : (o : Opening) (event : Event) (past : List Event) (h : ℕ) (fetched : FetchWord) → HasNoEffect o event past h
    → PossibleWord o (event ∷ past) h fetched ↔ PossibleWord o past h fetched
quiet_events_change_no_word o event past h fetched quiet = (word-before o event past h quiet fetched, word-after o event past h quiet fetched)
