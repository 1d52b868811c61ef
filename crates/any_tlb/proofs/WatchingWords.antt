-- The watched words of an address are its possible ones.
use Rattle.std.proofs.Common.{◌≡◌, ℕ, Bool, true, false, List, [], ◌∷◌, ◌++◌, map, subst, refl, sym, ap, ◌∙◌, Option, Some, None, inl, inr}
use Rattle.std.specs.Prelude.{◌↔◌, filter, if◌then◌else◌}
use Rattle.std.specs.List.{All, Contains}
use Rattle.std.proofs.lemmas.Bool.{both_ways, eq-eqb, eqb-true}
use Rattle.std.proofs.lemmas.List.Elements.{All-append, All-cons, All-contains, All-contains_itself, All-filter, All-head, All-map, All-nil, All-tail, All-weaker, filter_passes}
use Rattle.rfence.specs.Applied.{Effect}
use Rattle.tlb_model.specs.declared.cache.Numbered.{Numbered}
use Rattle.tlb_model.specs.declared.fence.Flush.{Flush}
use Rattle.tlb_model.specs.declared.word.FetchWord.{FetchWord}
use Rattle.tlb_model.specs.Words.{is_at}
use Rattle.board_core.specs.History.{Event}
use Rattle.board_core.specs.Memory.{memory}
use Rattle.board_core.specs.Opening.{Opening, words_at}
use Rattle.any_tlb.specs.Effects.{effect_at}
use Rattle.any_tlb.specs.Steady.{IsSteadyWord}
use Rattle.any_tlb.specs.WatchedWords.{WatchedWordsAgree, lived_words, spared_words, watched_words, word_or_none}
use Rattle.any_tlb.specs.Words.{PossibleWord, ends_words}

-- a word at a physical address
abbrev at : (pa word : ℕ) → FetchWord
at pa word = record { pa = pa; word = word }

word-all : (P : ℕ → Type 0) (found : Option ℕ) → ((word : ℕ) → found ≡ Some word → P word) → All P (word_or_none found)
word-all P None holds = All-nil P
word-all P (Some word) holds = All-cons P word [] (holds word refl) (All-nil P)

word-held : (P : ℕ → Type 0) (found : Option ℕ) (word : ℕ) → found ≡ Some word → All P (word_or_none found) → P word
word-held P None word e all = cc
word-held P (Some other) word e all = let same : other ≡ word = cc in subst P same (All-head P other [] all)

module _ (P : ℕ → Type 0) where
  left : (xs ys : List ℕ) → All P (xs ++ ys) → All P xs
  left [] ys all = All-nil P
  left (x ∷ xs) ys all = All-cons P x xs (All-head P x (xs ++ ys) all) (left xs ys (All-tail P x (xs ++ ys) all))

  right : (xs ys : List ℕ) → All P (xs ++ ys) → All P ys
  right [] ys all = all
  right (x ∷ xs) ys all = right xs ys (All-tail P x (xs ++ ys) all)

  spared-all : (done : Effect Flush) (words : List ℕ) (Q : ℕ → Type 0) → All Q words → (ends_words done ≡ false → (word : ℕ) → Q word → P word) → All P (spared_words done words)
  spared-all done words Q all outlasts = by_test (ends_words done) refl
    where
      by_test : (b : Bool) → ends_words done ≡ b → All P (if b then [] else words)
      by_test true is = All-nil P
      by_test false is = All-weaker Q P (λ word holds. outlasts is word holds) words all

  spared-held : (done : Effect Flush) (words : List ℕ) → ends_words done ≡ false → All P (spared_words done words) → All P words
  spared-held done words kept all = rw kept at all

-- each watched word is possible
pub watched_words_are_possible : (o : Opening) (past : List Event) (h pa : ℕ) → All (λ word. PossibleWord o past h (at pa word)) (watched_words o past h pa)
watched_words_are_possible o [] h pa =
    let P = λ (word : ℕ). PossibleWord o [] h (at pa word) in
    let here = λ (x : Numbered FetchWord). is_at pa x.item in
    let lived = All-filter here (Contains (words_at o h).live) (words_at o h).live (All-contains_itself (words_at o h).live) in
    let passes = filter_passes here (words_at o h).live in
    All-append P (lived_words o h pa) (word_or_none (memory o [] pa))
    (All-map P (λ (x : Numbered FetchWord). x.item.word) (filter here (words_at o h).live)
    (All-weaker (λ x. Contains (words_at o h).live x × (here x ≡ true)) (λ (x : Numbered FetchWord). P x.item.word)
    (λ x there. inr (record { fill = x; lived = there.0; is = (λ i. at (eqb-true x.item.pa pa there.1 i) x.item.word) })) (filter here (words_at o h).live)
    (λ k d inside. (lived k d inside, passes k d inside))))
    (word-all P (memory o [] pa) (λ word is. inl is))
watched_words_are_possible o (event ∷ past) h pa =
    let P = λ (word : ℕ). PossibleWord o (event ∷ past) h (at pa word) in
    let done = effect_at o past event h in
    All-append P (spared_words done (watched_words o past h pa)) (word_or_none (memory o (event ∷ past) pa))
    (spared-all P done (watched_words o past h pa) (λ word. PossibleWord o past h (at pa word)) (watched_words_are_possible o past h pa) (λ kept word was. inr (was, kept)))
    (word-all P (memory o (event ∷ past) pa) (λ word is. inl is))

-- and what holds of all that is watched holds of each possible word
of-watched : (o : Opening) (past : List Event) (h pa : ℕ) (P : ℕ → Type 0) (fetched : FetchWord) → fetched.pa ≡ pa → PossibleWord o past h fetched → All P (watched_words o past h pa) → P fetched.word
of-watched o [] h pa P fetched same (inl is) all =
    word-held P (memory o [] pa) fetched.word (ap (memory o []) (sym same) ∙ is) (right P (lived_words o h pa) (word_or_none (memory o [] pa)) all)
of-watched o [] h pa P fetched same (inr lived) all =
    let from = left P (lived_words o h pa) (word_or_none (memory o [] pa)) all in
    let holds = All-contains (λ (x : Numbered FetchWord). is_at pa x.item ≡ true → P x.item.word) (words_at o h).live lived.fill (held (words_at o h).live from) lived.lived in
    subst P (ap (λ (x : FetchWord). x.word) lived.is) (holds (eq-eqb lived.fill.item.pa pa (ap (λ (x : FetchWord). x.pa) lived.is ∙ same)))
  where
    held : (xs : List (Numbered FetchWord)) → All P (map (λ (x : Numbered FetchWord). x.item.word) (filter (λ (x : Numbered FetchWord). is_at pa x.item) xs))
        → All (λ (x : Numbered FetchWord). is_at pa x.item ≡ true → P x.item.word) xs
    held [] all = All-nil (λ (x : Numbered FetchWord). is_at pa x.item ≡ true → P x.item.word)
    held (x ∷ xs) all = by_test (is_at pa x.item) refl all (λ rest. held xs rest)
      where
        by_test : (b : Bool) → is_at pa x.item ≡ b
            → All P (map (λ (x : Numbered FetchWord). x.item.word) (if b then x ∷ filter (λ (x : Numbered FetchWord). is_at pa x.item) xs else filter (λ (x : Numbered FetchWord). is_at pa x.item) xs))
            → (All P (map (λ (x : Numbered FetchWord). x.item.word) (filter (λ (x : Numbered FetchWord). is_at pa x.item) xs)) → All (λ (x : Numbered FetchWord). is_at pa x.item ≡ true → P x.item.word) xs)
            → All (λ (x : Numbered FetchWord). is_at pa x.item ≡ true → P x.item.word) (x ∷ xs)
        by_test true is all rest =
            let later = map (λ (x : Numbered FetchWord). x.item.word) (filter (λ (x : Numbered FetchWord). is_at pa x.item) xs) in
            All-cons (λ (x : Numbered FetchWord). is_at pa x.item ≡ true → P x.item.word) x xs (λ passes. All-head P x.item.word later all) (rest (All-tail P x.item.word later all))
        by_test false is all rest = All-cons (λ (x : Numbered FetchWord). is_at pa x.item ≡ true → P x.item.word) x xs (λ passes. absurd (both_ways (is_at pa x.item) is passes)) (rest all)
of-watched o (event ∷ past) h pa P fetched same (inl is) all =
    word-held P (memory o (event ∷ past) pa) fetched.word (ap (memory o (event ∷ past)) (sym same) ∙ is)
    (right P (spared_words (effect_at o past event h) (watched_words o past h pa)) (word_or_none (memory o (event ∷ past) pa)) all)
of-watched o (event ∷ past) h pa P fetched same (inr was) all =
    let done = effect_at o past event h in
    let before = left P (spared_words done (watched_words o past h pa)) (word_or_none (memory o (event ∷ past) pa)) all in
    of-watched o past h pa P fetched same was.0 (spared-held P done (watched_words o past h pa) was.1 before)

pub watched_words_decide : (o : Opening) (past : List Event) (h pa : ℕ) → WatchedWordsAgree o past h pa ↔ IsSteadyWord o past h pa
watched_words_decide o past h pa = (there, back)
  where
    there : WatchedWordsAgree o past h pa → IsSteadyWord o past h pa
    there agree fetched same possible = of-watched o past h pa (λ word. memory o past pa ≡ Some word) fetched same possible agree

    back : IsSteadyWord o past h pa → WatchedWordsAgree o past h pa
    back steady =
        All-weaker (λ word. PossibleWord o past h (at pa word)) (λ word. memory o past pa ≡ Some word) (λ word possible. steady (at pa word) refl possible) (watched_words o past h pa)
        (watched_words_are_possible o past h pa)
