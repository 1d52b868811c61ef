-- What lives after one more act.
use Rattle.std.proofs.Common.{◌≡◌, ◌⊎◌, inl, inr, ℕ, suc, ◌+◌, ◌-◌, ◌<◌, ◌≤◌, Bool, true, false, not, ◌&&◌, ◌||◌, List, [], ◌∷◌, ◌++◌, length, take, ltb, refl, sym, ap, ◌∙◌, arith, length-append}
use Rattle.std.specs.Prelude.{filter}
use Rattle.std.specs.List.{All, Contains, list_any}
use Rattle.std.proofs.lemmas.Bool.{not-true}
use Rattle.std.proofs.lemmas.Bool.Decides.{nat_tests}
use Rattle.std.proofs.lemmas.List.Elements.{All-append, All-cons, All-contains_itself, All-filter, All-same, All-weaker, filter-append, filter_passes}
use Rattle.tlb_model.specs.declared.cache.Numbered.{Numbered}
use Rattle.tlb_model.specs.declared.fence.Flush.{Flush}
use Rattle.tlb_model.specs.Contents.{Contents}
use Rattle.tlb_model.specs.Acts.{Act, Fill, Drop, Clear, Nothing, ClearedIsGone, CoveredIsGone, GoesOnFromACut, KeepsWhatLives, LiveWasFilled, WasFilled, acted, after, cache_after, ends, fillings, is_live, live, next_number, number_after, outlives}
use Rattle.tlb_model.proofs.Filters.{filter-agree_within, filter-both}
use Rattle.tlb_model.proofs.Places.{same_contents}

module _ {E : Type 0} (first : ℕ) where
  after-more : (act : Act E) (acts : List (Act E)) (date : ℕ) → date < first + length acts → after first (act ∷ acts) date ≡ act ∷ after first acts date
  after-more act acts date early =
      let more : first + length (act ∷ acts) - date - 1 ≡ suc (first + length acts - date - 1) = omega arith in
      ap (λ n. take n (act ∷ acts)) more

  after-now : (act : Act E) (acts : List (Act E)) → after first (act ∷ acts) (first + length acts) ≡ []
  after-now act acts =
      let none : first + length (act ∷ acts) - (first + length acts) - 1 ≡ 0 = omega arith in
      ap (λ n. take n (act ∷ acts)) none

  module _ (opening : Contents E) where
    abbrev newest : List (Act E) → E → Numbered E
    newest acts item = record { date = first + length acts; number = next_number first opening acts; item = item }

    -- the acts' own fills are of earlier dates than the next act
    all-early : (acts : List (Act E)) → All (λ (x : Numbered E). x.date < first + length acts) (fillings first opening acts)
    all-early [] = λ k d before. absurd (omega arith)
    all-early (act ∷ acts) =
        by_act act (All-weaker (λ (x : Numbered E). x.date < first + length acts) (λ (x : Numbered E). x.date < first + length (act ∷ acts)) (λ x early. omega arith) (fillings first opening acts)
        (all-early acts))
      where
        by_act : (a : Act E) → All (λ (x : Numbered E). x.date < first + length (act ∷ acts)) (fillings first opening acts)
            → All (λ (x : Numbered E). x.date < first + length (act ∷ acts)) (fillings first opening (a ∷ acts))
        by_act (Fill item) rest = All-cons (λ (x : Numbered E). x.date < first + length (act ∷ acts)) (newest acts item) (fillings first opening acts) (omega arith) rest
        by_act (Drop flush) rest = rest
        by_act Clear rest = rest
        by_act Nothing rest = rest

    module _ (covers : Flush → E → Bool) where
      -- whether what lives outlives the act, before which this was the next number
      abbrev spares : Act E → ℕ → Numbered E → Bool
      spares (Fill item) next x = ltb next (x.number + 16)
      spares (Drop flush) next x = not (covers flush x.item)
      spares Clear next x = false
      spares Nothing next x = true

      sparing : (act : Act E) (any : Bool) (next : ℕ) (x : Numbered E)
          → (not (ends covers x.item act || any) && ltb (number_after act next) (x.number + 17)) ≡ ((not any && ltb next (x.number + 17)) && spares act next x)
      sparing (Fill item) true next x = refl
      sparing (Fill item) false next x = grind (arith, nat_tests)
      sparing (Drop flush) any next x = by_test (covers flush x.item) any (ltb next (x.number + 17))
        where
          by_test : (b any young : Bool) → (not (b || any) && young) ≡ ((not any && young) && not b)
          by_test true true young = refl
          by_test true false true = refl
          by_test true false false = refl
          by_test false true young = refl
          by_test false false true = refl
          by_test false false false = refl
      sparing Clear any next x = by_test (not any && ltb next (x.number + 17))
        where
          by_test : (b : Bool) → false ≡ (b && false)
          by_test true = refl
          by_test false = refl
      sparing Nothing any next x = by_test (not any && ltb next (x.number + 17))
        where
          by_test : (b : Bool) → b ≡ (b && true)
          by_test true = refl
          by_test false = refl

      outlives-more : (act : Act E) (acts later : List (Act E)) (x : Numbered E)
          → outlives first opening covers (act ∷ acts) (act ∷ later) x ≡ (outlives first opening covers acts later x && spares act (next_number first opening acts) x)
      outlives-more act acts later x = sparing act (list_any (ends covers x.item) later) (next_number first opening acts) x

      is_live-more : (act : Act E) (acts : List (Act E)) (x : Numbered E) → x.date < first + length acts
          → is_live first opening covers (act ∷ acts) x ≡ (is_live first opening covers acts x && spares act (next_number first opening acts) x)
      is_live-more act acts x early = rw (after-more act acts x.date early) (outlives-more act acts (after first acts x.date) x)

      newest-lives : (acts : List (Act E)) (item : E) → is_live first opening covers (Fill item ∷ acts) (newest acts item) ≡ true
      newest-lives acts item = rw (after-now (Fill item) acts) (grind (arith, nat_tests))

      -- those of before that the act spares
      spared : (act : Act E) (acts : List (Act E))
          → filter (is_live first opening covers (act ∷ acts)) (fillings first opening acts) ++ filter (outlives first opening covers (act ∷ acts) (act ∷ acts)) opening.live
          ≡ filter (spares act (next_number first opening acts)) (live first opening covers acts)
      spared act acts =
          let next = next_number first opening acts in
          let own = filter-agree_within (is_live first opening covers (act ∷ acts)) (λ x. is_live first opening covers acts x && spares act next x) (fillings first opening acts)
          (All-weaker (λ (x : Numbered E). x.date < first + length acts) (λ x. is_live first opening covers (act ∷ acts) x ≡ (is_live first opening covers acts x && spares act next x))
          (is_live-more act acts) (fillings first opening acts) (all-early acts))
          ∙ filter-both (is_live first opening covers acts) (spares act next) (fillings first opening acts) in
          let old = filter-agree_within (outlives first opening covers (act ∷ acts) (act ∷ acts)) (λ x. outlives first opening covers acts acts x && spares act next x) opening.live
          (λ k d before. outlives-more act acts acts _)
          ∙ filter-both (outlives first opening covers acts acts) (spares act next) opening.live in
          ap (λ (xs : List (Numbered E)). xs ++ filter (outlives first opening covers (act ∷ acts) (act ∷ acts)) opening.live) own
          ∙ ap (λ (xs : List (Numbered E)). filter (spares act next) (filter (is_live first opening covers acts) (fillings first opening acts)) ++ xs) old
          ∙ sym (filter-append (spares act next) (filter (is_live first opening covers acts) (fillings first opening acts)) (filter (outlives first opening covers acts acts) opening.live))

      -- and the act's own fill before them
      abbrev joined : Act E → List (Act E) → List (Numbered E) → List (Numbered E)
      joined (Fill item) acts xs = newest acts item ∷ xs
      joined (Drop flush) acts xs = xs
      joined Clear acts xs = xs
      joined Nothing acts xs = xs

      live-more : (act : Act E) (acts : List (Act E))
          → live first opening covers (act ∷ acts) ≡ joined act acts (filter (spares act (next_number first opening acts)) (live first opening covers acts))
      live-more (Fill item) acts = rw (newest-lives acts item) (ap (λ (xs : List (Numbered E)). newest acts item ∷ xs) (spared (Fill item) acts))
      live-more (Drop flush) acts = spared (Drop flush) acts
      live-more Clear acts = spared Clear acts
      live-more Nothing acts = spared Nothing acts

      -- what holds of all that lives, and of the act's own fill, holds of what lives after it
      All-live_more : (P : Numbered E → Type 0) (act : Act E) (acts : List (Act E)) → ((x : Numbered E) → x.date ≡ first + length acts → P x)
          → All P (live first opening covers acts) → All P (live first opening covers (act ∷ acts))
      All-live_more P act acts here before =
          All-same P (live first opening covers (act ∷ acts)) (joined act acts (filter (spares act (next_number first opening acts)) (live first opening covers acts))) (live-more act acts)
          (by_act act (All-filter (spares act (next_number first opening acts)) P (live first opening covers acts) before))
        where
          by_act : (a : Act E) → All P (filter (spares act (next_number first opening acts)) (live first opening covers acts))
              → All P (joined a acts (filter (spares act (next_number first opening acts)) (live first opening covers acts)))
          by_act (Fill item) rest = All-cons P (newest acts item) (filter (spares act (next_number first opening acts)) (live first opening covers acts)) (here (newest acts item) refl) rest
          by_act (Drop flush) rest = rest
          by_act Clear rest = rest
          by_act Nothing rest = rest

module _ {E : Type 0} where
  filter-none : (xs : List (Numbered E)) → filter (λ x. false) xs ≡ []
  filter-none [] = refl
  filter-none (x ∷ xs) = filter-none xs

  filter-all : (xs : List (Numbered E)) → filter (λ x. true) xs ≡ xs
  filter-all [] = refl
  filter-all (x ∷ xs) = ap (λ ys. x ∷ ys) (filter-all xs)

pub keeps_what_lives : {E : Type 0} → KeepsWhatLives E
keeps_what_lives first opening covers (Fill item) acts =
    same_contents (next_number first opening acts + 1) (next_number first opening acts + 1) _ _ refl (live-more first opening covers (Fill item) acts)
keeps_what_lives first opening covers (Drop flush) acts =
    same_contents (next_number first opening acts) (next_number first opening acts) _ _ refl (live-more first opening covers (Drop flush) acts)
keeps_what_lives first opening covers Clear acts =
    same_contents (next_number first opening acts) (next_number first opening acts) _ _ refl
    (live-more first opening covers Clear acts ∙ filter-none (live first opening covers acts))
keeps_what_lives first opening covers Nothing acts =
    same_contents (next_number first opening acts) (next_number first opening acts) _ _ refl
    (live-more first opening covers Nothing acts ∙ filter-all (live first opening covers acts))

module _ {E : Type 0} (first : ℕ) (opening : Contents E) where
  WasFilled-more : (act : Act E) (acts : List (Act E)) (x : Numbered E) → WasFilled first opening acts x → WasFilled first opening (act ∷ acts) x
  WasFilled-more act acts x was = record {
    newer = act ∷ was.newer;
    older = was.older;
    acted = ap (λ ys. act ∷ ys) was.acted;
    dated = was.dated;
    numbered = was.numbered;
  }

  all_filled : (acts : List (Act E)) → All (WasFilled first opening acts) (fillings first opening acts)
  all_filled [] = λ k d before. absurd (omega arith)
  all_filled (act ∷ acts) =
      by_act act (All-weaker (WasFilled first opening acts) (WasFilled first opening (act ∷ acts)) (WasFilled-more act acts) (fillings first opening acts) (all_filled acts))
    where
      by_act : (a : Act E) → All (WasFilled first opening (a ∷ acts)) (fillings first opening acts) → All (WasFilled first opening (a ∷ acts)) (fillings first opening (a ∷ acts))
      by_act (Fill item) rest =
          All-cons (WasFilled first opening (Fill item ∷ acts)) (newest first opening acts item) (fillings first opening acts)
          (record { newer = []; older = acts; acted = refl; dated = refl; numbered = refl }) rest
      by_act (Drop flush) rest = rest
      by_act Clear rest = rest
      by_act Nothing rest = rest

pub live_was_filled : {E : Type 0} → LiveWasFilled E
live_was_filled {E} first opening covers acts =
    let P = λ (fill : Numbered E). WasFilled first opening acts fill ⊎ Contains opening.live fill in
    All-append P (filter (is_live first opening covers acts) (fillings first opening acts)) (filter (outlives first opening covers acts acts) opening.live)
    (All-filter (is_live first opening covers acts) P (fillings first opening acts)
    (All-weaker (WasFilled first opening acts) P (λ x was. inl was) (fillings first opening acts) (all_filled first opening acts)))
    (All-filter (outlives first opening covers acts acts) P opening.live
    (All-weaker (Contains opening.live) P (λ x there. inr there) opening.live (All-contains_itself opening.live)))

pub covered_is_gone : {E : Type 0} → CoveredIsGone E
covered_is_gone {E} first opening covers [] flush older =
    let lived = live first opening covers older in
    All-same (λ (x : Numbered E). x.date ≤ first + length older → covers flush x.item ≡ false) (live first opening covers (Drop flush ∷ older)) (filter (λ x. not (covers flush x.item)) lived)
    (live-more first opening covers (Drop flush) older)
    (All-weaker (λ (x : Numbered E). not (covers flush x.item) ≡ true) (λ (x : Numbered E). x.date ≤ first + length older → covers flush x.item ≡ false)
    (λ x spared early. not-true (covers flush x.item) spared) (filter (λ x. not (covers flush x.item)) lived)
    (filter_passes (λ x. not (covers flush x.item)) lived))
covered_is_gone {E} first opening covers (act ∷ newer) flush older =
    All-live_more first opening covers (λ (x : Numbered E). x.date ≤ first + length older → covers flush x.item ≡ false) act (newer ++ Drop flush ∷ older)
    (λ x dated early. absurd (omega (arith, length-append newer (Drop flush ∷ older)))) (covered_is_gone first opening covers newer flush older)

pub cleared_is_gone : {E : Type 0} → ClearedIsGone E
cleared_is_gone {E} first opening covers [] older =
    All-same (λ (x : Numbered E). first + length older < x.date) (live first opening covers (Clear ∷ older)) []
    (live-more first opening covers Clear older ∙ filter-none (live first opening covers older)) (λ k d before. absurd (omega arith))
cleared_is_gone {E} first opening covers (act ∷ newer) older =
    All-live_more first opening covers (λ (x : Numbered E). first + length older < x.date) act (newer ++ Clear ∷ older)
    (λ x dated. omega (arith, length-append newer (Clear ∷ older))) (cleared_is_gone first opening covers newer older)

-- what lives is of an earlier date than the next act
pub live-early : {E : Type 0} (first : ℕ) (opening : Contents E) (covers : Flush → E → Bool) (acts : List (Act E)) → All (λ (x : Numbered E). x.date < first) opening.live
    → All (λ (x : Numbered E). x.date < first + length acts) (live first opening covers acts)
live-early {E} first opening covers acts dated =
    let P = λ (x : Numbered E). x.date < first + length acts in
    All-append P (filter (is_live first opening covers acts) (fillings first opening acts)) (filter (outlives first opening covers acts acts) opening.live)
    (All-filter (is_live first opening covers acts) P (fillings first opening acts) (all-early first opening acts))
    (All-filter (outlives first opening covers acts acts) P opening.live (All-weaker (λ (x : Numbered E). x.date < first) P (λ x early. omega arith) opening.live dated))

-- what lives passes the test by which it lives, so that no act drops it
module _ {E : Type 0} (first : ℕ) (opening : Contents E) (covers : Flush → E → Bool) (older : List (Act E)) where
  abbrev next : ℕ
  next = next_number first opening older

  young : (later : List (Act E)) (x : Numbered E) → outlives first opening covers older later x ≡ true → ltb next (x.number + 17) ≡ true
  young later x lives = by_test (not (list_any (ends covers x.item) later)) (ltb next (x.number + 17)) lives
    where
      by_test : (a b : Bool) → (a && b) ≡ true → b ≡ true
      by_test true b both = both
      by_test false b both = cc

  all-young : All (λ (x : Numbered E). ltb next (x.number + 17) ≡ true) (live first opening covers older)
  all-young =
      All-append (λ (x : Numbered E). ltb next (x.number + 17) ≡ true) (filter (is_live first opening covers older) (fillings first opening older))
      (filter (outlives first opening covers older older) opening.live)
      (All-weaker (λ (x : Numbered E). is_live first opening covers older x ≡ true) (λ (x : Numbered E). ltb next (x.number + 17) ≡ true) (λ x lives. young (after first older x.date) x lives)
      (filter (is_live first opening covers older) (fillings first opening older)) (filter_passes (is_live first opening covers older) (fillings first opening older)))
      (All-weaker (λ (x : Numbered E). outlives first opening covers older older x ≡ true) (λ (x : Numbered E). ltb next (x.number + 17) ≡ true) (λ x lives. young older x lives)
      (filter (outlives first opening covers older older) opening.live) (filter_passes (outlives first opening covers older older) opening.live))

  -- a cut is the opening of what goes on from it
  opens-as_is : cache_after (first + length older) (cache_after first opening covers older) covers [] ≡ cache_after first opening covers older
  opens-as_is =
      same_contents next next _ _ refl
      (filter-agree_within (outlives (first + length older) (cache_after first opening covers older) covers [] []) (λ x. true) (live first opening covers older) all-young
      ∙ filter-all (live first opening covers older))

pub goes_on : {E : Type 0} → GoesOnFromACut E
goes_on first opening covers [] older = opens-as_is first opening covers older
goes_on {E} first opening covers (act ∷ newer) older =
    let cut = cache_after first opening covers older in
    let far : first + length older + length newer ≡ first + length (newer ++ older) = omega (arith, length-append newer older) in
    keeps_what_lives (first + length older) cut covers act newer
    ∙ ap (λ (cache : Contents E). acted covers (first + length older + length newer) cache act) (goes_on first opening covers newer older)
    ∙ ap (λ date. acted covers date (cache_after first opening covers (newer ++ older)) act) far
    ∙ sym (keeps_what_lives first opening covers act (newer ++ older))
