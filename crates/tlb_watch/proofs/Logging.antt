-- A log that keeps what says more gives what the whole log gives.
use Rattle.std.proofs.Common.{◌≡◌, ℕ, ◌+◌, ◌<◌, Bool, true, false, not, List, [], ◌∷◌, ◌++◌, length, take, get_or, refl, sym, ap, ◌∙◌, append-nil, cond, Option}
use Rattle.std.specs.Prelude.{◌&&◌, ◌==◌, filter, if◌then◌else◌}
use Rattle.std.specs.List.{fold}
use Rattle.std.proofs.lemmas.List.{take_more}
use Rattle.std.proofs.lemmas.List.Elements.{filter-append}
use Rattle.std.proofs.lemmas.List.Sums.{fold-append}
use Rattle.rfence.specs.Applied.{Effect, Nothing, Drops, Empties}
use Rattle.sv39.specs.Satp.{translates}
use Rattle.tlb_model.specs.contracts.fence.FlushPartialEq.TheImpl as flushes
use Rattle.tlb_model.specs.declared.fence.Flush.{Flush}
use Rattle.tlb_model.specs.Entries.{Entry}
use Rattle.any_tlb.specs.declared.watcher.Walking.{Walking}
use Rattle.any_tlb.specs.declared.watcher.Walking.TheVariants.{Had, Fenced}
use Rattle.any_tlb.specs.Watch.{entries_left, given_by, given_by_kinds, given_for, logged}
use Rattle.tlb_watch.specs.Kept.{is_fence, kept_with, logged_once, said_before, says_more, with_satp}
use Rattle.tlb_watch.specs.Watched.{GiveTheSame}
use Rattle.tlb_watch.proofs.Flushes.{flushes-same}
use Rattle.tlb_watch.proofs.Giving.{given-on, left_by, noted, others, same-noted}
use Rattle.tlb_watch.proofs.Members.{same-by, same-on, same-self}

-- ---- filters

module _ {A : Type 0} (p : A → Bool) where
  passing : (x : A) (xs : List A) (b : Bool) → p x ≡ b → filter p (x ∷ xs) ≡ cond b (x ∷ filter p xs) (filter p xs)
  passing x xs b is = ap (λ (c : Bool). cond c (x ∷ filter p xs) (filter p xs)) is

  filter-twice : (xs : List A) → filter p (filter p xs) ≡ filter p xs
  filter-twice [] = refl
  filter-twice (x ∷ xs) = by_test (p x) refl (filter-twice xs)
    where
      by_test : (b : Bool) → p x ≡ b → filter p (filter p xs) ≡ filter p xs → filter p (cond b (x ∷ filter p xs) (filter p xs)) ≡ cond b (x ∷ filter p xs) (filter p xs)
      by_test true is rest = passing x (filter p xs) true is ∙ ap (λ (l : List A). x ∷ l) rest
      by_test false is rest = rest

filters-swap : {A : Type 0} (p q : A → Bool) (xs : List A) → filter p (filter q xs) ≡ filter q (filter p xs)
filters-swap p q [] = refl
filters-swap p q (x ∷ xs) = by_tests (p x) (q x) refl refl (filters-swap p q xs)
  where
    by_tests : (a b : Bool) → p x ≡ a → q x ≡ b → filter p (filter q xs) ≡ filter q (filter p xs)
        → filter p (cond b (x ∷ filter q xs) (filter q xs)) ≡ filter q (cond a (x ∷ filter p xs) (filter p xs))
    by_tests true true is_p is_q rest = passing p x (filter q xs) true is_p ∙ ap (λ l. x ∷ l) rest ∙ sym (passing q x (filter p xs) true is_q)
    by_tests true false is_p is_q rest = rest ∙ sym (passing q x (filter p xs) false is_q)
    by_tests false true is_p is_q rest = passing p x (filter q xs) false is_p ∙ rest
    by_tests false false is_p is_q rest = rest

-- ---- fences

module _ (memory : ℕ → Option ℕ) (va : ℕ) (flush : Flush) where
  abbrev older : List Walking → List Walking
  older walks = filter (λ walking. not (is_fence flush walking)) walks

  -- behind the fence, older notes of it say nothing more
  once : (walks : List Walking) (few many : List Entry) → entries_left flush few ≡ entries_left flush many
      → entries_left flush (given_by memory va few (older walks)) ≡ entries_left flush (given_by memory va many walks)
  once [] few many same = same
  once (Had satp ∷ walks) few many same =
      let given = given_for memory satp va in
      once walks (few ++ given) (many ++ given)
      (filter-append (left_by flush) few given ∙ ap (λ (l : List Entry). l ++ entries_left flush given) same ∙ sym (filter-append (left_by flush) many given))
  once (Fenced other ∷ walks) few many same = by_test (once walks) (flushes.ghosts.eq other flush) refl
    where
      by_test : ((few many : List Entry) → entries_left flush few ≡ entries_left flush many → entries_left flush (given_by memory va few (older walks)) ≡ entries_left flush (given_by memory va many walks))
          → (is : Bool) → flushes.ghosts.eq other flush ≡ is
          → entries_left flush (given_by memory va few (cond (not is) (Fenced other ∷ older walks) (older walks))) ≡ entries_left flush (given_by memory va (entries_left other many) walks)
      by_test again true is =
          again few (entries_left other many)
          (same ∙ sym (filter-twice (left_by flush) many) ∙ ap (λ (f : Flush). entries_left flush (entries_left f many)) (sym (flushes-same other flush is)))
      by_test again false is =
          again (entries_left other few) (entries_left other many)
          (filters-swap (left_by flush) (left_by other) few ∙ ap (entries_left other) same ∙ sym (filters-swap (left_by flush) (left_by other) many))

  fenced : (walks : List Walking) → given_by memory va [] (older walks ++ Fenced flush ∷ []) ≡ given_by memory va [] (walks ++ Fenced flush ∷ [])
  fenced walks =
      given-on memory va [] (older walks) (Fenced flush ∷ []) ∙ once walks [] [] refl ∙ sym (given-on memory va [] walks (Fenced flush ∷ []))

pub logged-like : (done : Effect Flush) (walks : List Walking) → GiveTheSame (logged_once done walks) (logged done walks)
logged-like Nothing walks memory va = same-self (given_by memory va [] walks)
logged-like (Drops flush) walks memory va = same-by _ _ _ _ (fenced memory va flush walks) refl (same-self (given_by memory va [] (walks ++ Fenced flush ∷ [])))
logged-like Empties walks memory va = same-self []

-- ---- satps

module _ (memory : ℕ → Option ℕ) (va : ℕ) where
  -- a satp that doesn't translate gives nothing
  gives-none : (satp : ℕ) → translates satp ≡ false → given_for memory satp va ≡ []
  gives-none satp bare = ap (λ (b : Bool). if b then given_by_kinds memory satp va else []) bare

  module _ (satp : ℕ) where
    said : (walks kept : List Walking) → given_by memory va [] (fold (kept_with satp) kept walks) ≡ given_by memory va (given_by memory va [] kept) (others satp walks)
    said [] kept = refl
    said (Had other ∷ walks) kept = by_test (other == satp) (translates other) refl (said walks)
      where
        by_test : (is works : Bool) → translates other ≡ works
            → ((kept : List Walking) → given_by memory va [] (fold (kept_with satp) kept walks) ≡ given_by memory va (given_by memory va [] kept) (others satp walks))
            → given_by memory va [] (fold (kept_with satp) (if not is && works then kept ++ Had other ∷ [] else kept) walks)
            ≡ given_by memory va (given_by memory va [] kept) (cond (not is) (Had other ∷ others satp walks) (others satp walks))
        by_test true works so again = again kept
        by_test false true so again =
            again (kept ++ Had other ∷ []) ∙ ap (λ (l : List Entry). given_by memory va l (others satp walks)) (given-on memory va [] kept (Had other ∷ []))
        by_test false false so again =
            again kept
            ∙ ap (λ (l : List Entry). given_by memory va l (others satp walks))
            (sym (append-nil (given_by memory va [] kept)) ∙ ap (λ (l : List Entry). given_by memory va [] kept ++ l) (sym (gives-none other so)))
    said (Fenced flush ∷ walks) [] = said walks []
    said (Fenced flush ∷ walks) (walking ∷ kept) =
        said walks ((walking ∷ kept) ++ Fenced flush ∷ [])
        ∙ ap (λ (l : List Entry). given_by memory va l (others satp walks)) (given-on memory va [] (walking ∷ kept) (Fenced flush ∷ []))

    with-satp : (walks : List Walking) → given_by memory va [] (with_satp satp walks) ≡ given_by memory va [] (others satp walks ++ Had satp ∷ [])
    with-satp walks = by_test (translates satp) refl ∙ sym (given-on memory va [] (others satp walks) (Had satp ∷ []))
      where
        by_test : (works : Bool) → translates satp ≡ works
            → given_by memory va [] (if works then said_before satp walks ++ Had satp ∷ [] else said_before satp walks) ≡ given_by memory va [] (others satp walks) ++ given_for memory satp va
        by_test true so =
            given-on memory va [] (said_before satp walks) (Had satp ∷ []) ∙ ap (λ (l : List Entry). l ++ given_for memory satp va) (said walks [])
        by_test false so =
            said walks [] ∙ sym (append-nil (given_by memory va [] (others satp walks)))
            ∙ ap (λ (l : List Entry). given_by memory va [] (others satp walks) ++ l) (sym (gives-none satp so))

pub walks-like : (done : Effect Flush) (satp : ℕ) (walks : List Walking) → GiveTheSame (with_satp satp (logged_once done walks)) (logged done walks ++ Had satp ∷ [])
walks-like done satp walks memory va =
    let once = logged_once done walks in
    same-on (given_by memory va [] (with_satp satp once)) (given_by memory va [] (once ++ Had satp ∷ [])) (given_by memory va [] (logged done walks ++ Had satp ∷ []))
    (same-by _ _ _ _ (with-satp memory va satp once) refl (noted memory va satp once))
    (same-noted satp once (logged done walks) (logged-like done walks) memory va)

-- ---- a loop that keeps what says more

pub said-more : (satp : ℕ) (walks : List Walking) (i : ℕ) (x : Walking) → i < length walks → x ≡ get_or walks i x → said_before satp (take (i + 1) walks) ≡ kept_with satp (said_before satp (take i walks)) x
said-more satp walks i x inside is =
    ap (said_before satp) (take_more walks i x inside) ∙ fold-append (kept_with satp) [] (take i walks) (get_or walks i x ∷ [])
    ∙ ap (kept_with satp (said_before satp (take i walks))) (sym is)

pub when-more : (satp : ℕ) (kept : List Walking) (x : Walking) → says_more satp kept x ≡ true → kept_with satp kept x ≡ kept ++ x ∷ []
when-more satp kept x is = ap (λ (b : Bool). if b then kept ++ x ∷ [] else kept) is

pub when-no-more : (satp : ℕ) (kept : List Walking) (x : Walking) → says_more satp kept x ≡ false → kept_with satp kept x ≡ kept
when-no-more satp kept x is = ap (λ (b : Bool). if b then kept ++ x ∷ [] else kept) is
