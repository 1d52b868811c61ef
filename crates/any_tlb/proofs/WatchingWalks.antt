-- The list of what a TLB may give an access is all that it may give.
use Rattle.std.proofs.Common.{◌≡◌, ℕ, ◌+◌, ◌*◌, Bool, true, false, List, [], ◌∷◌, ◌++◌, map, subst, refl, sym, Option, Result, Err, inl, inr}
use Rattle.std.specs.Prelude.{◌⊎◌, ◌↔◌, ◌==◌, ◌||◌, filter, flat_map, if◌then◌else◌, not}
use Rattle.std.specs.List.{All}
use Rattle.std.proofs.lemmas.Bool.{and_from, and_parts, both_ways, eq-eqb, eqb-true, not-true}
use Rattle.std.proofs.lemmas.List.Concat.{flat_map-cons}
use Rattle.std.proofs.lemmas.List.Elements.{All-append, All-cons, All-head, All-map, All-nil, All-tail, All-weaker}
use Rattle.rfence.specs.Applied.{Effect}
use Rattle.sv39.specs.declared.cause.Cause.{Cause}
use Rattle.sv39.specs.declared.cause.Kind.{Kind}
use Rattle.sv39.specs.declared.page.Leaf.{Leaf}
use Rattle.sv39.specs.declared.page.Level.{Level}
use Rattle.sv39.specs.Causes.{page_fault}
use Rattle.sv39.specs.Leaves.{by_right}
use Rattle.sv39.specs.Maps.{is_some_global, is_some_pointer, maps, outcome, table_of}
use Rattle.sv39.specs.Pages.{levels_from, part}
use Rattle.sv39.specs.Paging.{scheme}
use Rattle.sv39.specs.Satp.{asid_of, is_valid, paging_of, root_address, translates}
use Rattle.tlb_model.specs.declared.fence.Flush.{Flush}
use Rattle.tlb_model.specs.Entries.{Entry, matches}
use Rattle.hart_access.specs.Translations.{IsTranslated}
use Rattle.board_core.specs.History.{Event}
use Rattle.board_core.specs.Memory.{address_by, memory, satp}
use Rattle.board_core.specs.Opening.{Opening}
use Rattle.board_laws.proofs.Leaves.{matched}
use Rattle.any_tlb.specs.Effects.{MaySee, effect_at}
use Rattle.any_tlb.specs.Firm.{IsFirm, IsLenient, IsMapped}
use Rattle.any_tlb.specs.Mixed.{Kept, MayGive, MaySeeEnd, MaySeeTurned, MaySeeWord, Mixed, MixedFrom, MixedWalk, Now, is_end_global, orders_ends, orders_pointers}
use Rattle.any_tlb.specs.Possible.{Possible}
use Rattle.any_tlb.specs.Steady.{phys_of}
use Rattle.any_tlb.specs.Watch.{watched}
use Rattle.any_tlb.specs.WatchedWalks.{counts, end_words, given_results, is_bool, mixed_by, mixed_from, mixed_results, seen_of, seen_satps, seen_words, turned_words}
use Rattle.any_tlb.proofs.Watching.{of-watched, watched_are_possible}

-- ---- lists

module _ {X : Type 0} (P : X → Type 0) where
  left : (xs ys : List X) → All P (xs ++ ys) → All P xs
  left [] ys all = All-nil P
  left (x ∷ xs) ys all = All-cons P x xs (All-head P x (xs ++ ys) all) (left xs ys (All-tail P x (xs ++ ys) all))

  right : (xs ys : List X) → All P (xs ++ ys) → All P ys
  right [] ys all = all
  right (x ∷ xs) ys all = right xs ys (All-tail P x (xs ++ ys) all)

  filtered : (p : X → Bool) (xs : List X) → All (λ x. p x ≡ true → P x) xs → All P (filter p xs)
  filtered p [] all = All-nil P
  filtered p (x ∷ xs) all = by_test (p x) refl (filtered p xs (All-tail (λ x. p x ≡ true → P x) x xs all))
    where
      by_test : (b : Bool) → p x ≡ b → All P (filter p xs) → All P (if b then x ∷ filter p xs else filter p xs)
      by_test true is rest = All-cons P x (filter p xs) (All-head (λ x. p x ≡ true → P x) x xs all is) rest
      by_test false is rest = rest

  unfiltered : (p : X → Bool) (xs : List X) → All P (filter p xs) → All (λ x. p x ≡ true → P x) xs
  unfiltered p [] all = All-nil (λ x. p x ≡ true → P x)
  unfiltered p (x ∷ xs) all = by_test (p x) refl all (λ rest. unfiltered p xs rest)
    where
      by_test : (b : Bool) → p x ≡ b → All P (if b then x ∷ filter p xs else filter p xs) → (All P (filter p xs) → All (λ x. p x ≡ true → P x) xs) → All (λ x. p x ≡ true → P x) (x ∷ xs)
      by_test true is all rest = All-cons (λ x. p x ≡ true → P x) x xs (λ passes. All-head P x (filter p xs) all) (rest (All-tail P x (filter p xs) all))
      by_test false is all rest = All-cons (λ x. p x ≡ true → P x) x xs (λ passes. absurd (both_ways (p x) is passes)) (rest all)

  module _ {Y : Type 0} (f : Y → List X) where
    all-flat : (ys : List Y) → All (λ y. All P (f y)) ys → All P (flat_map f ys)
    all-flat [] all = All-nil P
    all-flat (y ∷ ys) all =
        subst (All P) (sym (flat_map-cons f y ys))
        (All-append P (f y) (flat_map f ys) (All-head (λ y. All P (f y)) y ys all) (all-flat ys (All-tail (λ y. All P (f y)) y ys all)))

    flat-all : (ys : List Y) → All P (flat_map f ys) → All (λ y. All P (f y)) ys
    flat-all [] all = All-nil (λ y. All P (f y))
    flat-all (y ∷ ys) all =
        let parts = subst (All P) (flat_map-cons f y ys) all in
        All-cons (λ y. All P (f y)) y ys (left (f y) (flat_map f ys) parts) (flat-all ys (right (f y) (flat_map f ys) parts))

  module _ {Y : Type 0} (f : Y → X) where
    mapped-all : (ys : List Y) → All P (map f ys) → All (λ y. P (f y)) ys
    mapped-all [] all = All-nil (λ y. P (f y))
    mapped-all (y ∷ ys) all = All-cons (λ y. P (f y)) y ys (All-head P (f y) (map f ys) all) (mapped-all ys (All-tail P (f y) (map f ys) all))

-- ---- what may still be seen

module _ {A : Type 0} (of : List Event → A) (ordered : A → Effect Flush → Bool) (o : Opening) (h : ℕ) where
  all-seen : (past : List Event) (P : A → Type 0) → ((value : A) → MaySee of (ordered value) o past h value → P value) → All P (seen_of of ordered o past h)
  all-seen [] P holds = All-cons P (of []) [] (holds (of []) refl) (All-nil P)
  all-seen (event ∷ past) P holds =
      let spares = λ (value : A). not (ordered value (effect_at o past event h)) in
      All-cons P (of (event ∷ past)) (filter spares (seen_of of ordered o past h)) (holds (of (event ∷ past)) (inl refl))
      (filtered P spares (seen_of of ordered o past h)
      (all-seen past (λ value. spares value ≡ true → P value) (λ value sees passes. holds value (inr (sees, not-true (ordered value (effect_at o past event h)) passes)))))

  seen-held : (past : List Event) (P : A → Type 0) → All P (seen_of of ordered o past h) → (value : A) → MaySee of (ordered value) o past h value → P value
  seen-held [] P all value is = subst P is (All-head P (of []) [] all)
  seen-held (event ∷ past) P all value (inl is) =
      subst P is (All-head P (of (event ∷ past)) (filter (λ value. not (ordered value (effect_at o past event h))) (seen_of of ordered o past h)) all)
  seen-held (event ∷ past) P all value (inr before) =
      let spares = λ (value : A). not (ordered value (effect_at o past event h)) in
      let rest = unfiltered P spares (seen_of of ordered o past h) (All-tail P (of (event ∷ past)) (filter spares (seen_of of ordered o past h)) all) in
      seen-held past (λ value. spares value ≡ true → P value) rest value before.0 (rw before.1 refl)

module _ (o : Opening) (h va : ℕ) (global : Bool) (asid : ℕ) (level : Level) (pa : ℕ) where
  all-turned : (past : List Event) (P : Option ℕ → Type 0) → ((word : Option ℕ) → MaySeeTurned o past h va global asid level pa word → P word) → All P (turned_words h va global asid level pa o past)
  all-turned [] P holds = All-nil P
  all-turned (event ∷ past) P holds =
      by_order (orders_pointers global asid (effect_at o past event h)) refl (λ holds. all-turned past P holds)
    where
      by_pointer : (b : Bool) → is_some_pointer level (memory o (event ∷ past) pa) ≡ b → orders_pointers global asid (effect_at o past event h) ≡ false
          → All P (if b then seen_words o past h (orders_ends va level global asid) pa else [])
      by_pointer true is kept = all-seen (λ past. memory o past pa) (λ word. orders_ends va level global asid) o h past P (λ word sees. holds word (inr (sees, is), kept))
      by_pointer false is kept = All-nil P

      by_order : (b : Bool) → orders_pointers global asid (effect_at o past event h) ≡ b
          → (((word : Option ℕ) → MaySeeTurned o past h va global asid level pa word → P word) → All P (turned_words h va global asid level pa o past))
          → All P (if b then [] else turned_words h va global asid level pa o past
          ++ (if is_some_pointer level (memory o (event ∷ past) pa) then seen_words o past h (orders_ends va level global asid) pa else []))
      by_order true is rest = All-nil P
      by_order false is rest =
          All-append P (turned_words h va global asid level pa o past) _ (rest (λ word turned. holds word (inl turned, is))) (by_pointer (is_some_pointer level (memory o (event ∷ past) pa)) refl is)

  turned-held : (past : List Event) (P : Option ℕ → Type 0) → All P (turned_words h va global asid level pa o past) → (word : Option ℕ) → MaySeeTurned o past h va global asid level pa word → P word
  turned-held [] P all word turned = absurd turned
  turned-held (event ∷ past) P all word turned =
      by_order (orders_pointers global asid (effect_at o past event h)) turned.1 all (λ all turned. turned-held past P all word turned)
    where
      by_pointer : (b : Bool) → b ≡ true → All P (if b then seen_words o past h (orders_ends va level global asid) pa else []) → MaySeeWord o past h (orders_ends va level global asid) pa word → P word
      by_pointer true is all sees = seen-held (λ past. memory o past pa) (λ word. orders_ends va level global asid) o h past P all word sees
      by_pointer false is all sees = cc

      by_order : (b : Bool) → b ≡ false
          → All P (if b then [] else turned_words h va global asid level pa o past
          ++ (if is_some_pointer level (memory o (event ∷ past) pa) then seen_words o past h (orders_ends va level global asid) pa else []))
          → (All P (turned_words h va global asid level pa o past) → MaySeeTurned o past h va global asid level pa word → P word) → P word
      by_order true is all rest = cc
      by_order false is all rest = elim turned.0 [
        | inl before ↦ rest (left P (turned_words h va global asid level pa o past) _ all) before
        | inr now ↦ by_pointer (is_some_pointer level (memory o (event ∷ past) pa)) now.1 (right P (turned_words h va global asid level pa o past) _ all) now.0
      ]

  all-ends : (past : List Event) (P : Option ℕ → Type 0) → ((word : Option ℕ) → MaySeeEnd o past h va global asid level pa word → P word) → All P (end_words h va global asid level pa o past)
  all-ends past P holds =
      All-append P (seen_words o past h (orders_ends va level global asid) pa) (turned_words h va global asid level pa o past)
      (all-seen (λ past. memory o past pa) (λ word. orders_ends va level global asid) o h past P (λ word sees. holds word (inl sees))) (all-turned past P (λ word turned. holds word (inr turned)))

  ends-held : (past : List Event) (P : Option ℕ → Type 0) → All P (end_words h va global asid level pa o past) → (word : Option ℕ) → MaySeeEnd o past h va global asid level pa word → P word
  ends-held past P all word (inl sees) =
      seen-held (λ past. memory o past pa) (λ word. orders_ends va level global asid) o h past P (left P (seen_words o past h (orders_ends va level global asid) pa) (turned_words h va global asid level pa o past) all) word sees
  ends-held past P all word (inr turned) = turned-held past P (right P (seen_words o past h (orders_ends va level global asid) pa) (turned_words h va global asid level pa o past) all) word turned

-- ---- what walks give

-- a list has all that holds of a word, and nothing else
record Lists (words : List (Option ℕ)) (Is : Option ℕ → Type 0) : Type 1 where
  all : (P : Option ℕ → Type 0) → ((word : Option ℕ) → Is word → P word) → All P words
  held : (P : Option ℕ → Type 0) → All P words → (word : Option ℕ) → Is word → P word

module _ (pointers : ℕ → List (Option ℕ)) (ends : Level → ℕ → List (Option ℕ)) (Pointer : ℕ → Option ℕ → Type 0) (End : Level → ℕ → Option ℕ → Type 0)
    (are_pointers : (pa : ℕ) → Lists (pointers pa) (Pointer pa)) (are_ends : (level : Level) (pa : ℕ) → Lists (ends level pa) (End level pa)) (va : ℕ) (kind : Kind)
    (P : Bool × Result Leaf Cause → Type 0) where
  all-mixed : (levels : List Level) (table : ℕ) (global : Bool) → ((met : Bool) (result : Result Leaf Cause) → MixedFrom Pointer End va kind table global levels met result → P (met, result))
      → All P (mixed_from pointers ends va kind table global levels)
  all-mixed [] table global holds = All-cons P (global, Err (page_fault kind)) [] (holds global (Err (page_fault kind)) (refl, refl)) (All-nil P)
  all-mixed (level ∷ under) table global holds =
      let pa = table + 8 * part level va in
      let below = λ (word : Option ℕ). mixed_from pointers ends va kind (table_of word) (global || is_some_global word) under in
      let made = λ (word : Option ℕ). (let x : Bool × Result Leaf Cause = (global || is_end_global word, outcome word va kind level global) in x) in
      let others = λ (word : Option ℕ). not (is_some_pointer level word) in
      All-append P (flat_map below (filter (is_some_pointer level) (pointers pa))) (map made (filter others (ends level pa)))
      (all-flat P below (filter (is_some_pointer level) (pointers pa))
      (filtered (λ word. All P (below word)) (is_some_pointer level) (pointers pa)
      ((are_pointers pa).all (λ word. is_some_pointer level word ≡ true → All P (below word))
      (λ word sees pointer. all-mixed under (table_of word) (global || is_some_global word) (λ met result walk. holds met result (inl (word, pointer, sees, walk)))))))
      (All-map P made (filter others (ends level pa))
      (filtered (λ word. P (made word)) others (ends level pa)
      ((are_ends level pa).all (λ word. others word ≡ true → P (made word))
      (λ word sees other. holds (global || is_end_global word) (outcome word va kind level global) (inr (word, not-true (is_some_pointer level word) other, sees, refl, refl))))))

  mixed-held : (levels : List Level) (table : ℕ) (global : Bool) → All P (mixed_from pointers ends va kind table global levels) → (met : Bool) (result : Result Leaf Cause)
      → MixedFrom Pointer End va kind table global levels met result → P (met, result)
  mixed-held [] table global all met result walk =
      let same : (let x : Bool × Result Leaf Cause = (global, Err (page_fault kind)) in x) ≡ (met, result) = (λ i. (sym walk.1 i, sym walk.0 i)) in
      subst P same (All-head P (global, Err (page_fault kind)) [] all)
  mixed-held (level ∷ under) table global all met result (inl down) =
      let pa = table + 8 * part level va in
      let below = λ (word : Option ℕ). mixed_from pointers ends va kind (table_of word) (global || is_some_global word) under in
      let flat = left P (flat_map below (filter (is_some_pointer level) (pointers pa))) _ all in
      let each = unfiltered (λ word. All P (below word)) (is_some_pointer level) (pointers pa) (flat-all P below (filter (is_some_pointer level) (pointers pa)) flat) in
      let rest = (are_pointers pa).held (λ word. is_some_pointer level word ≡ true → All P (below word)) each down.0 down.2 down.1 in
      mixed-held under (table_of down.0) (global || is_some_global down.0) rest met result down.3
  mixed-held (level ∷ under) table global all met result (inr end) =
      let pa = table + 8 * part level va in
      let below = λ (word : Option ℕ). mixed_from pointers ends va kind (table_of word) (global || is_some_global word) under in
      let made = λ (word : Option ℕ). (let x : Bool × Result Leaf Cause = (global || is_end_global word, outcome word va kind level global) in x) in
      let others = λ (word : Option ℕ). not (is_some_pointer level word) in
      let last = right P (flat_map below (filter (is_some_pointer level) (pointers pa))) (map made (filter others (ends level pa))) all in
      let each = unfiltered (λ word. P (made word)) others (ends level pa) (mapped-all P made (filter others (ends level pa)) last) in
      let there = (are_ends level pa).held (λ word. others word ≡ true → P (made word)) each end.0 end.2 (rw end.1 refl) in
      let same : made end.0 ≡ (met, result) = (λ i. (sym end.4 i, sym end.3 i)) in
      subst P same there

-- ---- what a TLB may give

is-bool : (met other : Bool) → is_bool met other ≡ true → other ≡ met
is-bool true other is = is
is-bool false true is = sym is
is-bool false false is = refl

bool-is : (met : Bool) → is_bool met met ≡ true
bool-is true = refl
bool-is false = refl

module _ (o : Opening) (past : List Event) (h va : ℕ) (kind : Kind) (met : Bool) where
  pointer-lists : (by_satp pa : ℕ) → Lists (seen_words o past h (orders_pointers met (asid_of by_satp)) pa) (MaySeeWord o past h (orders_pointers met (asid_of by_satp)) pa)
  pointer-lists by_satp pa = record {
    all = all-seen (λ past. memory o past pa) (λ word. orders_pointers met (asid_of by_satp)) o h past;
    held = seen-held (λ past. memory o past pa) (λ word. orders_pointers met (asid_of by_satp)) o h past;
  }

  end-lists : (by_satp : ℕ) (level : Level) (pa : ℕ) → Lists (end_words h va met (asid_of by_satp) level pa o past) (MaySeeEnd o past h va met (asid_of by_satp) level pa)
  end-lists by_satp level pa = record {
    all = all-ends o h va met (asid_of by_satp) level pa past;
    held = ends-held o h va met (asid_of by_satp) level pa past;
  }

  space-of : (by_satp : ℕ) → (met || (asid_of by_satp == asid_of (satp o past h))) ≡ true → (met ≡ true) ⊎ (asid_of by_satp ≡ asid_of (satp o past h))
  space-of by_satp is = by_met met refl is
    where
      by_met : (b : Bool) → met ≡ b → (b || (asid_of by_satp == asid_of (satp o past h))) ≡ true → (met ≡ true) ⊎ (asid_of by_satp ≡ asid_of (satp o past h))
      by_met true is of = inl is
      by_met false is of = inr (eqb-true (asid_of by_satp) (asid_of (satp o past h)) of)

  of-space : (by_satp : ℕ) → (met ≡ true) ⊎ (asid_of by_satp ≡ asid_of (satp o past h)) → (met || (asid_of by_satp == asid_of (satp o past h))) ≡ true
  of-space by_satp (inl is) = rw is refl
  of-space by_satp (inr same) = by_met met
    where
      by_met : (b : Bool) → (b || (asid_of by_satp == asid_of (satp o past h))) ≡ true
      by_met true = refl
      by_met false = eq-eqb (asid_of by_satp) (asid_of (satp o past h)) same

  all-results : (P : Result Leaf Cause → Type 0) → ((result : Result Leaf Cause) → MixedWalk o past h va kind result → P result) → All P (mixed_results o past h va kind met)
  all-results P holds =
      all-flat P (mixed_by o past h va kind met) (filter (counts o past h va kind met) (seen_satps o past h met))
      (filtered (λ by_satp. All P (mixed_by o past h va kind met by_satp)) (counts o past h va kind met) (seen_satps o past h met)
      (all-seen (λ past. satp o past h) (λ value. orders_pointers met (asid_of value)) o h past (λ by_satp. counts o past h va kind met by_satp ≡ true → All P (mixed_by o past h va kind met by_satp)) by_one))
    where
      by_one : (by_satp : ℕ) → MaySee (λ past. satp o past h) (orders_pointers met (asid_of by_satp)) o past h by_satp → counts o past h va kind met by_satp ≡ true
          → All P (mixed_by o past h va kind met by_satp)
      by_one by_satp sees count =
          let first = and_parts (translates by_satp) _ count in
          let second = and_parts (is_valid by_satp va) _ first.1 in
          let Q = λ (found : Bool × Result Leaf Cause). is_bool met found.0 ≡ true → P found.1 in
          let found = mixed_from (seen_words o past h (orders_pointers met (asid_of by_satp))) (λ level pa. end_words h va met (asid_of by_satp) level pa o past) va kind (root_address by_satp) false
          (levels_from (scheme (paging_of by_satp)).root) in
          All-map P (λ (x : Bool × Result Leaf Cause). x.1) (filter (λ (x : Bool × Result Leaf Cause). is_bool met x.0) found)
          (filtered (λ (x : Bool × Result Leaf Cause). P x.1) (λ (x : Bool × Result Leaf Cause). is_bool met x.0) found
          (all-mixed (seen_words o past h (orders_pointers met (asid_of by_satp))) (λ level pa. end_words h va met (asid_of by_satp) level pa o past)
          (MaySeeWord o past h (orders_pointers met (asid_of by_satp))) (MaySeeEnd o past h va met (asid_of by_satp)) (pointer-lists by_satp) (end-lists by_satp) va kind Q
          (levels_from (scheme (paging_of by_satp)).root) (root_address by_satp) false
          (λ other result walk is. holds result (record {
            by_satp = by_satp;
            met = met;
            sees = sees;
            space = space-of by_satp second.1;
            mode = first.0;
            valid = second.0;
            walk = subst (λ b. MixedFrom (MaySeeWord o past h (orders_pointers met (asid_of by_satp))) (MaySeeEnd o past h va met (asid_of by_satp)) va kind (root_address by_satp) false
                (levels_from (scheme (paging_of by_satp)).root) b result) (is-bool met other is) walk;
          }))))

  results-held : (P : Result Leaf Cause → Type 0) → All P (mixed_results o past h va kind met) → (result : Result Leaf Cause) (by_satp : ℕ)
      → MaySee (λ past. satp o past h) (orders_pointers met (asid_of by_satp)) o past h by_satp → (met ≡ true) ⊎ (asid_of by_satp ≡ asid_of (satp o past h)) → translates by_satp ≡ true → is_valid by_satp va ≡ true
      → MixedFrom (MaySeeWord o past h (orders_pointers met (asid_of by_satp))) (MaySeeEnd o past h va met (asid_of by_satp)) va kind (root_address by_satp) false
      (levels_from (scheme (paging_of by_satp)).root) met result → P result
  results-held P all result by_satp sees space mode valid walk =
      let found = mixed_from (seen_words o past h (orders_pointers met (asid_of by_satp))) (λ level pa. end_words h va met (asid_of by_satp) level pa o past) va kind (root_address by_satp) false
      (levels_from (scheme (paging_of by_satp)).root) in
      let each = unfiltered (λ by_satp. All P (mixed_by o past h va kind met by_satp)) (counts o past h va kind met) (seen_satps o past h met)
      (flat-all P (mixed_by o past h va kind met) (filter (counts o past h va kind met) (seen_satps o past h met)) all) in
      let count = and_from (translates by_satp) _ mode (and_from (is_valid by_satp va) _ valid (of-space by_satp space)) in
      let there = seen-held (λ past. satp o past h) (λ value. orders_pointers met (asid_of value)) o h past
      (λ by_satp. counts o past h va kind met by_satp ≡ true → All P (mixed_by o past h va kind met by_satp)) each by_satp sees count in
      let kept = unfiltered (λ (x : Bool × Result Leaf Cause). P x.1) (λ (x : Bool × Result Leaf Cause). is_bool met x.0) found
      (mapped-all P (λ (x : Bool × Result Leaf Cause). x.1) (filter (λ (x : Bool × Result Leaf Cause). is_bool met x.0) found) there) in
      mixed-held (seen_words o past h (orders_pointers met (asid_of by_satp))) (λ level pa. end_words h va met (asid_of by_satp) level pa o past)
      (MaySeeWord o past h (orders_pointers met (asid_of by_satp))) (MaySeeEnd o past h va met (asid_of by_satp)) (pointer-lists by_satp) (end-lists by_satp) va kind
      (λ (x : Bool × Result Leaf Cause). is_bool met x.0 ≡ true → P x.1) (levels_from (scheme (paging_of by_satp)).root) (root_address by_satp) false kept met result walk (bool-is met)

module _ (o : Opening) (past : List Event) (h va : ℕ) (kind : Kind) (P : Result Leaf Cause → Type 0) where
  all-given : ((result : Result Leaf Cause) → MayGive o past h va kind result → P result) → All P (given_results o past h va kind)
  all-given holds =
      let here = matches (address_by (satp o past h) va) in
      let gives = λ (entry : Entry). by_right kind entry.leaf in
      let kept = map gives (filter here (watched o past h va)) in
      let mixed = mixed_results o past h va kind false ++ mixed_results o past h va kind true in
      All-append P (maps (memory o past) (satp o past h) va kind ∷ kept) mixed
      (All-cons P (maps (memory o past) (satp o past h) va kind) kept (holds (maps (memory o past) (satp o past h) va kind) (Now refl))
      (All-map P gives (filter here (watched o past h va))
      (filtered (λ entry. P (gives entry)) here (watched o past h va)
      (All-weaker (Possible o past h) (λ entry. here entry ≡ true → P (gives entry)) (λ entry possible match. holds (gives entry) (Kept entry possible match refl)) (watched o past h va)
      (watched_are_possible o past h va)))))
      (All-append P (mixed_results o past h va kind false) (mixed_results o past h va kind true) (all-results o past h va kind false P (λ result walk. holds result (Mixed walk)))
      (all-results o past h va kind true P (λ result walk. holds result (Mixed walk))))

  abbrev kept_results : List (Result Leaf Cause)
  kept_results = map (λ (entry : Entry). by_right kind entry.leaf) (filter (matches (address_by (satp o past h) va)) (watched o past h va))

  abbrev walk_results : List (Result Leaf Cause)
  walk_results = mixed_results o past h va kind false ++ mixed_results o past h va kind true

  given-held : All P (given_results o past h va kind) → (result : Result Leaf Cause) → MayGive o past h va kind result → P result
  given-held all result may =
      by_source may
    where
      first : All P (maps (memory o past) (satp o past h) va kind ∷ kept_results)
      first = left P (maps (memory o past) (satp o past h) va kind ∷ kept_results) walk_results all

      second : All P (mixed_results o past h va kind false ++ mixed_results o past h va kind true)
      second = right P (maps (memory o past) (satp o past h) va kind ∷ kept_results) walk_results all

      by_met : (walk : MixedWalk o past h va kind result) (b : Bool) → walk.met ≡ b → P result
      by_met walk true is =
          results-held o past h va kind true P (right P (mixed_results o past h va kind false) (mixed_results o past h va kind true) second) result walk.by_satp
          (subst (λ b. MaySee (λ past. satp o past h) (orders_pointers b (asid_of walk.by_satp)) o past h walk.by_satp) is walk.sees)
          (subst (λ b. (b ≡ true) ⊎ (asid_of walk.by_satp ≡ asid_of (satp o past h))) is walk.space) walk.mode walk.valid
          (subst (λ b. MixedFrom (MaySeeWord o past h (orders_pointers b (asid_of walk.by_satp))) (MaySeeEnd o past h va b (asid_of walk.by_satp)) va kind (root_address walk.by_satp) false
          (levels_from (scheme (paging_of walk.by_satp)).root) b result) is walk.walk)
      by_met walk false is =
          results-held o past h va kind false P (left P (mixed_results o past h va kind false) (mixed_results o past h va kind true) second) result walk.by_satp
          (subst (λ b. MaySee (λ past. satp o past h) (orders_pointers b (asid_of walk.by_satp)) o past h walk.by_satp) is walk.sees)
          (subst (λ b. (b ≡ true) ⊎ (asid_of walk.by_satp ≡ asid_of (satp o past h))) is walk.space) walk.mode walk.valid
          (subst (λ b. MixedFrom (MaySeeWord o past h (orders_pointers b (asid_of walk.by_satp))) (MaySeeEnd o past h va b (asid_of walk.by_satp)) va kind (root_address walk.by_satp) false
          (levels_from (scheme (paging_of walk.by_satp)).root) b result) is walk.walk)

      by_source : MayGive o past h va kind result → P result
      by_source (Now is) = subst P (sym is) (All-head P (maps (memory o past) (satp o past h) va kind) kept_results first)
      by_source (Kept entry possible match is) =
          let m = matched entry va (asid_of (satp o past h)) match in
          let here = matches (address_by (satp o past h) va) in
          let each = unfiltered (λ (entry : Entry). P (by_right kind entry.leaf)) here (watched o past h va)
          (mapped-all P (λ (entry : Entry). by_right kind entry.leaf) (filter here (watched o past h va)) (All-tail P (maps (memory o past) (satp o past h) va kind) kept_results first)) in
          subst P (sym is) (of-watched o past h va (λ entry. here entry ≡ true → P (by_right kind entry.leaf)) entry possible m.from m.before each match)
      by_source (Mixed walk) = by_met walk walk.met refl

-- the physical address or fault of now, and that or a page fault where the tables give a leaf
abbrev Same : Opening → List Event → (h va : ℕ) → Kind → Result Leaf Cause → Type 0
Same o past h va kind result = phys_of result va ≡ phys_of (maps (memory o past) (satp o past h) va kind) va

abbrev Lenient : Opening → List Event → (h va : ℕ) → Kind → Result Leaf Cause → Type 0
Lenient o past h va kind result = Same o past h va kind result ⊎ ((result ≡ Err (page_fault kind)) × IsMapped o past h va kind)

pub results_decide_firm : (o : Opening) (past : List Event) (h va : ℕ) (kind : Kind) → (IsTranslated (satp o past h) va → All (Same o past h va kind) (given_results o past h va kind)) ↔ IsFirm o past h va kind
results_decide_firm o past h va kind = (
  λ agree translated. given-held o past h va kind (Same o past h va kind) (agree translated),
  λ firm translated. all-given o past h va kind (Same o past h va kind) (firm translated),
)

pub results_decide_lenient : (o : Opening) (past : List Event) (h va : ℕ) (kind : Kind)
    → (IsTranslated (satp o past h) va → All (Lenient o past h va kind) (given_results o past h va kind)) ↔ IsLenient o past h va kind
results_decide_lenient o past h va kind = (
  λ agree translated. given-held o past h va kind (Lenient o past h va kind) (agree translated),
  λ lenient translated. all-given o past h va kind (Lenient o past h va kind) (lenient translated),
)
