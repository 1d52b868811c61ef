-- Which words show behind notes.
use Rattle.std.proofs.Common.{◌≡◌, ◌↔◌, ℕ, Bool, true, false, not, List, [], ◌∷◌, ◌++◌, refl, sym, ap, subst, ◌∙◌, inl, inr, Option, Some, None}
use Rattle.std.specs.Prelude.{◌⊎◌, ◌==◌, ◌&&◌, ◌||◌, if◌then◌else◌}
use Rattle.std.proofs.lemmas.Bool.{eqb-true}
use Rattle.rfence.specs.Applied.{Drops}
use Rattle.sv39.specs.Maps.{is_some_pointer}
use Rattle.tlb_model.specs.declared.fence.Flush.{Flush}
use Rattle.any_tlb.specs.Mixed.{orders_ends, orders_pointers}
use Rattle.tlb_watch.specs.Sets.{IsIn}
use Rattle.tlb_watch.proofs.Members.{in-cases, in-left, in-right}
use Rattle.walk_watch.specs.declared.former.FormerWord.{FormerWord}
use Rattle.walk_watch.specs.declared.former.WalkNote.{WalkNote}
use Rattle.walk_watch.specs.declared.former.WalkNote.TheVariants.{Was, Fence}
use Rattle.walk_watch.specs.declared.sight.Sight.{Sight}
use Rattle.walk_watch.specs.declared.sight.Spot.{Spot}
use Rattle.walk_watch.specs.Inside.Sights.{back, behind_word, has_word, is_same_word, seen_on, shown, stood, unseen}

-- ---- lists of words

same-word : (a b : Option ℕ) → is_same_word a b ≡ true → a ≡ b
same-word (Some a) (Some b) is = ap (λ n. let o : Option ℕ = Some n in o) (eqb-true a b is)
same-word (Some a) None is = cc
same-word None (Some b) is = cc
same-word None None is = refl

has-in : (words : List (Option ℕ)) (word : Option ℕ) → has_word words word ≡ true → IsIn words word
has-in [] word is = cc
has-in (other ∷ words) word is = by_test (is_same_word other word) refl is (has-in words word)
  where
    by_test : (b : Bool) → is_same_word other word ≡ b → (b || has_word words word) ≡ true → (has_word words word ≡ true → IsIn words word) → IsIn (other ∷ words) word
    by_test true same is rest = inl (same-word other word same)
    by_test false same is rest = inr (rest is)

shown-in : (s : Sight) (found : List (Option ℕ)) (x : Option ℕ) → IsIn (shown s found) x ↔ (IsIn found x ⊎ ((s.shows ≡ true) × (s.word ≡ x)))
shown-in s found x = by_tests s.shows (has_word found s.word) refl refl
  where
    there : IsIn found x ⊎ IsIn (s.word ∷ []) x → s.shows ≡ true → IsIn found x ⊎ ((s.shows ≡ true) × (s.word ≡ x))
    there (inl old) shows = inl old
    there (inr (inl same)) shows = inr (shows, same)
    there (inr (inr none)) shows = absurd none

    by_tests : (a b : Bool) → s.shows ≡ a → has_word found s.word ≡ b
        → IsIn (if a && not b then found ++ s.word ∷ [] else found) x ↔ (IsIn found x ⊎ ((s.shows ≡ true) × (s.word ≡ x)))
    by_tests true false shows has = (
      (λ new. there (in-cases found (s.word ∷ []) x new) shows),
      (λ of. elim of [
        | inl old ↦ in-left found (s.word ∷ []) x old
        | inr now ↦ in-right found (s.word ∷ []) x (inl now.1)
      ]),
    )
    by_tests true true shows has = (
      (λ old. inl old),
      (λ of. elim of [
        | inl old ↦ old
        | inr now ↦ subst (IsIn found) now.1 (has-in found s.word has)
      ]),
    )
    by_tests false b shows has = (
      (λ old. inl old),
      (λ of. elim of [
        | inl old ↦ old
        | inr now ↦ absurd (let e : false ≡ true = sym shows ∙ now.0 in cc)
      ]),
    )

-- ---- what shows

-- a word shows behind some of these notes
abbrev pub Shows : Spot → Sight → List WalkNote → Option ℕ → Type 0
Shows spot s [] x = ⊥
Shows spot s (note ∷ notes) x =
    (((back spot s note).shows ≡ true) × ((back spot s note).word ≡ x)) ⊎ Shows spot (back spot s note) notes x

pub seen-shows : (spot : Spot) (notes : List WalkNote) (s : Sight) (found : List (Option ℕ)) (x : Option ℕ) → IsIn (seen_on spot s found notes) x ↔ (IsIn found x ⊎ Shows spot s notes x)
seen-shows spot [] s found x = (
  (λ there. inl there),
  (λ of. elim of [
    | inl there ↦ there
    | inr none ↦ absurd none
  ]),
)
seen-shows spot (note ∷ notes) s found x =
    let rest = seen-shows spot notes (back spot s note) (shown (back spot s note) found) x in
    let one = shown-in (back spot s note) found x in (
      (λ there. elim (rest.0 there) [
        | inl here ↦ first (one.0 here)
        | inr later ↦ inr (inr later)
      ]),
      (λ of. rest.1 (turned one of)),
    )
  where
    first : IsIn found x ⊎ (((back spot s note).shows ≡ true) × ((back spot s note).word ≡ x)) → IsIn found x ⊎ Shows spot s (note ∷ notes) x
    first (inl old) = inl old
    first (inr now) = inr (inl now)

    turned : (IsIn (shown (back spot s note) found) x ↔ (IsIn found x ⊎ (((back spot s note).shows ≡ true) × ((back spot s note).word ≡ x)))) → IsIn found x ⊎ Shows spot s (note ∷ notes) x
        → IsIn (shown (back spot s note) found) x ⊎ Shows spot (back spot s note) notes x
    turned one (inl old) = inl (one.1 (inl old))
    turned one (inr (inl now)) = inl (one.1 (inr now))
    turned one (inr (inr later)) = inr later

-- ---- one note more

module _ (spot : Spot) (s next : Sight) (note : WalkNote) (notes : List WalkNote) (x : Option ℕ) (is : back spot s note ≡ next) where
  pub cons-to : Shows spot s (note ∷ notes) x → ((next.shows ≡ true) × (next.word ≡ x)) ⊎ Shows spot next notes x
  cons-to seen = subst (λ (t : Sight). ((t.shows ≡ true) × (t.word ≡ x)) ⊎ Shows spot t notes x) is seen

  pub cons-from : ((next.shows ≡ true) × (next.word ≡ x)) ⊎ Shows spot next notes x → Shows spot s (note ∷ notes) x
  cons-from seen = subst (λ (t : Sight). ((t.shows ≡ true) × (t.word ≡ x)) ⊎ Shows spot t notes x) (sym is) seen

-- ---- where all is ordered

word-over : (spot : Spot) (s : Sight) (former : FormerWord) → s.over ≡ true → ((behind_word spot s former).over ≡ true) × ((behind_word spot s former).shows ≡ false)
word-over spot s former over = by_test (former.at == spot.at)
  where
    by_test : (b : Bool)
        → ((if b then stood spot s former.word else unseen s).over ≡ true) × ((if b then stood spot s former.word else unseen s).shows ≡ false)
    by_test true = (over, ap (λ (o : Bool). not o && ((s.free || is_some_pointer spot.level s.word) || is_some_pointer spot.level former.word)) over)
    by_test false = (over, refl)

abbrev fence-sight : Spot → Sight → (here pointers ends : Bool) → Sight
fence-sight spot s here pointers ends =
    if here
    then (if pointers
    then record { word = s.word; free = s.free; over = true; shows = false }
    else if ends
    then record { word = s.word; free = is_some_pointer spot.level s.word; over = s.over; shows = false }
    else unseen s)
    else unseen s

fence-over : (spot : Spot) (s : Sight) (x : ℕ) (flush : Flush) → s.over ≡ true → ((back spot s (Fence x flush)).over ≡ true) × ((back spot s (Fence x flush)).shows ≡ false)
fence-over spot s x flush over =
    by_tests (x == spot.walkers.hart) (orders_pointers spot.walkers.met spot.walkers.asid (Drops flush)) (orders_ends spot.walkers.va spot.level spot.walkers.met spot.walkers.asid (Drops flush))
  where
    by_tests : (here pointers ends : Bool) → ((fence-sight spot s here pointers ends).over ≡ true) × ((fence-sight spot s here pointers ends).shows ≡ false)
    by_tests true true ends = (refl, refl)
    by_tests true false true = (over, refl)
    by_tests true false false = (over, refl)
    by_tests false pointers ends = (over, refl)

back-over : (spot : Spot) (s : Sight) (note : WalkNote) → s.over ≡ true → ((back spot s note).over ≡ true) × ((back spot s note).shows ≡ false)
back-over spot s (Was former) over = word-over spot s former over
back-over spot s (Fence x flush) over = fence-over spot s x flush over

pub none-shows : (spot : Spot) (notes : List WalkNote) (s : Sight) (x : Option ℕ) → s.over ≡ true → Shows spot s notes x → ⊥
none-shows spot [] s x over seen = seen
none-shows spot (note ∷ notes) s x over (inl now) = let e : false ≡ true = sym (back-over spot s note over).1 ∙ now.0 in cc
none-shows spot (note ∷ notes) s x over (inr later) = none-shows spot notes (back spot s note) x (back-over spot s note over).0 later
