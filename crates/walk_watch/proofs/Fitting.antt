-- The tests of walks say what they are named for.
use Rattle.std.proofs.Common.{◌≡◌, ◌↔◌, ℕ, ◌+◌, ◌*◌, Bool, true, false, not, List, [], ◌∷◌, refl, sym, ap, subst, ◌∙◌, inl, inr, Option, Result, Err}
use Rattle.std.specs.Prelude.{◌⊎◌, ◌==◌, ◌&&◌, ◌||◌, if◌then◌else◌}
use Rattle.std.specs.List.{list_all}
use Rattle.std.proofs.lemmas.Bool.{and_from, and_parts, eq-eqb, eqb-true}
use Rattle.sv39.specs.declared.cause.Cause.{Cause}
use Rattle.sv39.specs.declared.page.Leaf.{Leaf}
use Rattle.sv39.specs.declared.page.Level.{Level}
use Rattle.sv39.specs.Causes.{page_fault}
use Rattle.sv39.specs.Maps.{is_some_global, is_some_pointer, outcome, table_of}
use Rattle.sv39.specs.Pages.{part}
use Rattle.any_tlb.specs.Mixed.{MixedFrom, is_end_global}
use Rattle.any_tlb.specs.Steady.{phys_of}
use Rattle.any_tlb.specs.WatchedWalks.{is_bool}
use Rattle.tlb_watch.specs.Deciding.{is_same_result}
use Rattle.tlb_watch.specs.Sets.{IsIn}
use Rattle.tlb_watch.proofs.Deciding.{results-decide}
use Rattle.walk_watch.specs.declared.former.WalkNote.{WalkNote}
use Rattle.walk_watch.specs.declared.seeking.Sought.{Sought}
use Rattle.walk_watch.specs.declared.wanted.Wanted.{Wanted}
use Rattle.walk_watch.specs.Inside.Fits.{counted_fits, fits_from, result_fits, spot_of, word_fits}
use Rattle.walk_watch.specs.Inside.Sights.{words_seen}

-- ---- tests

pub or-so : (b c : Bool) (P Q : Type 0) → (b ≡ true) ↔ P → (c ≡ true) ↔ Q → ((b || c) ≡ true) ↔ (P ⊎ Q)
or-so true c P Q one other = (
  (λ is. inl (one.0 refl)),
  (λ either. refl),
)
or-so false c P Q one other = (
  (λ is. inr (other.0 is)),
  (λ either. elim either [
    | inl p ↦ let e : false ≡ true = one.1 p in cc
    | inr q ↦ other.1 q
  ]),
)

pub and-so : (b c : Bool) (P Q : Type 0) → (b ≡ true) ↔ P → (c ≡ true) ↔ Q → ((b && c) ≡ true) ↔ (P × Q)
and-so b c P Q one other = (
  (λ is. let parts = and_parts b c is in (one.0 parts.0, other.0 parts.1)),
  (λ both. and_from b c (one.1 both.0) (other.1 both.1)),
)

pub unless-so : (b c : Bool) (P Q : Type 0) → (b ≡ true) ↔ P → (c ≡ true) ↔ Q → ((not b || c) ≡ true) ↔ (P → Q)
unless-so true c P Q one other = (
  (λ is p. other.0 is),
  (λ follows. other.1 (follows (one.0 refl))),
)
unless-so false c P Q one other = (
  (λ is p. let e : false ≡ true = one.1 p in absurd (cc)),
  (λ follows. refl),
)

pub own-so : (b : Bool) → (b ≡ true) ↔ (b ≡ true)
own-so b = ((λ is. is), (λ is. is))

pub bool-so : (a b : Bool) → (is_bool a b ≡ true) ↔ (a ≡ b)
bool-so true true = ((λ is. refl), (λ is. refl))
bool-so true false = ((λ is. cc), (λ is. cc))
bool-so false true = ((λ is. cc), (λ is. cc))
bool-so false false = ((λ is. refl), (λ is. refl))

pub number-so : (a b : ℕ) → ((a == b) ≡ true) ↔ (a ≡ b)
number-so a b = (eqb-true a b, eq-eqb a b)

pub all-so : {A : Type 0} (test : A → Bool) (xs : List A) → (list_all test xs ≡ true) ↔ ((x : A) → IsIn xs x → test x ≡ true)
all-so test [] = ((λ is x there. absurd there), (λ all. refl))
all-so {A = A} test (x ∷ xs) =
    let rest = all-so test xs in (
      (λ is y there. by_side (and_parts (test x) (list_all test xs) is) rest y there),
      (λ all. and_from (test x) (list_all test xs) (all x (inl refl)) (rest.1 (λ y there. all y (inr there)))),
    )
  where
    by_side : (test x ≡ true) × (list_all test xs ≡ true) → (list_all test xs ≡ true) ↔ ((y : A) → IsIn xs y → test y ≡ true) → (y : A) → (x ≡ y) ⊎ IsIn xs y → test y ≡ true
    by_side parts rest y (inl same) = subst (λ (z : A). test z ≡ true) same parts.0
    by_side parts rest y (inr there) = rest.0 parts.1 y there

-- ---- results

-- a result is what the access must be given
abbrev pub Fits : Wanted → Result Leaf Cause → Type 0
Fits w result =
    (phys_of result w.va ≡ w.phys) ⊎ ((w.may_fault ≡ true) × (phys_of result w.va ≡ Err (page_fault w.kind)))

result-so : (w : Wanted) (result : Result Leaf Cause) → (result_fits w result ≡ true) ↔ Fits w result
result-so w result =
    or-so (is_same_result (phys_of result w.va) w.phys) (w.may_fault && is_same_result (phys_of result w.va) (Err (page_fault w.kind))) _ _ (results-decide (phys_of result w.va) w.phys)
    (and-so w.may_fault (is_same_result (phys_of result w.va) (Err (page_fault w.kind))) _ _ (own-so w.may_fault) (results-decide (phys_of result w.va) (Err (page_fault w.kind))))

counted-so : (s : Sought) (global : Bool) (result : Result Leaf Cause) → (counted_fits s global result ≡ true) ↔ (s.met ≡ global → Fits s.wanted result)
counted-so s global result = unless-so (is_bool s.met global) (result_fits s.wanted result) _ _ (bool-so s.met global) (result-so s.wanted result)

-- ---- walks

module _ (s : Sought) (notes : List WalkNote) (memory : ℕ → Option ℕ) (Pointer : (pa : ℕ) → Option ℕ → Type 0) (End : Level → (pa : ℕ) → Option ℕ → Type 0)
    (seen : (level : Level) (pa : ℕ) (x : Option ℕ) → IsIn (words_seen (spot_of s level pa) notes (memory pa)) x
    ↔ (((is_some_pointer level x ≡ true) × Pointer pa x) ⊎ ((is_some_pointer level x ≡ false) × End level pa x))) where
  -- all results of these walks from a table on fit
  abbrev AllFit : List Level → (table : ℕ) → (global : Bool) → Type 0
  AllFit levels table global =
      (result : Result Leaf Cause) → MixedFrom Pointer End s.wanted.va s.wanted.kind table global levels s.met result → Fits s.wanted result

  -- a place of this table, the words that walks may see there, and what holds of the tables below
  abbrev here : Level → (table : ℕ) → ℕ
  here level table = table + 8 * part level s.wanted.va

  abbrev Words : Level → (table : ℕ) → List (Option ℕ)
  Words level table = words_seen (spot_of s level (here level table)) notes (memory (here level table))

  abbrev Rest : List Level → (global : Bool) → Type 0
  Rest under global =
      (word : Option ℕ) → (fits_from s notes memory under (table_of word) (global || is_some_global word) ≡ true) ↔ AllFit under (table_of word) (global || is_some_global word)

  -- the test of a pointer, and of an end
  pointer-test : (level : Level) (under : List Level) (global : Bool) (x : Option ℕ) → is_some_pointer level x ≡ true
      → word_fits s notes memory level under global x ≡ fits_from s notes memory under (table_of x) (global || is_some_global x)
  pointer-test level under global x is =
      ap (λ (b : Bool). if b
      then fits_from s notes memory under (table_of x) (global || is_some_global x)
      else counted_fits s (global || is_end_global x) (outcome x s.wanted.va s.wanted.kind level global)) is

  end-test : (level : Level) (under : List Level) (global : Bool) (x : Option ℕ) → is_some_pointer level x ≡ false
      → word_fits s notes memory level under global x ≡ counted_fits s (global || is_end_global x) (outcome x s.wanted.va s.wanted.kind level global)
  end-test level under global x is =
      ap (λ (b : Bool). if b
      then fits_from s notes memory under (table_of x) (global || is_some_global x)
      else counted_fits s (global || is_end_global x) (outcome x s.wanted.va s.wanted.kind level global)) is

  pub from-so : (levels : List Level) (table : ℕ) (global : Bool) → (fits_from s notes memory levels table global ≡ true) ↔ AllFit levels table global
  from-so [] table global =
      let counted = counted-so s global (Err (page_fault s.wanted.kind)) in (
        (λ is result walk. subst (Fits s.wanted) (sym walk.0) (counted.0 is walk.1)),
        (λ all. counted.1 (λ same. all (Err (page_fault s.wanted.kind)) (refl, same))),
      )
  from-so (level ∷ under) table global =
      let words = words_seen (spot_of s level (table + 8 * part level s.wanted.va)) notes (memory (table + 8 * part level s.wanted.va)) in
      let each = all-so (word_fits s notes memory level under global) words in (
        (λ is. to (each.0 is) (λ word. from-so under (table_of word) (global || is_some_global word))),
        (λ all. each.1 (λ x there. from all (λ word. from-so under (table_of word) (global || is_some_global word)) x there)),
      )
    where
      to : ((x : Option ℕ) → IsIn (Words level table) x → word_fits s notes memory level under global x ≡ true) → Rest under global → AllFit (level ∷ under) table global
      to each rest result (inl down) =
          let x : Option ℕ = down.0 in
          let test = each x ((seen level (here level table) x).1 (inl (down.1, down.2))) in
          (rest x).0 (sym (pointer-test level under global x down.1) ∙ test) result down.3
      to each rest result (inr end) =
          let x : Option ℕ = end.0 in
          let test = each x ((seen level (here level table) x).1 (inr (end.1, end.2))) in
          let fits = (counted-so s (global || is_end_global x) (outcome x s.wanted.va s.wanted.kind level global)).0 (sym (end-test level under global x end.1) ∙ test) end.4 in
          subst (Fits s.wanted) (sym end.3) fits

      from : AllFit (level ∷ under) table global → Rest under global → (x : Option ℕ) → IsIn (Words level table) x → word_fits s notes memory level under global x ≡ true
      from all rest x there = by_side ((seen level (here level table) x).0 there)
        where
          by_side : ((is_some_pointer level x ≡ true) × Pointer (here level table) x) ⊎ ((is_some_pointer level x ≡ false) × End level (here level table) x) → word_fits s notes memory level under global x ≡ true
          by_side (inl pointer) =
              pointer-test level under global x pointer.0 ∙ (rest x).1 (λ result walk. all result (inl (x, pointer.0, pointer.1, walk)))
          by_side (inr end) =
              end-test level under global x end.0
              ∙ (counted-so s (global || is_end_global x) (outcome x s.wanted.va s.wanted.kind level global)).1
              (λ same. all (outcome x s.wanted.va s.wanted.kind level global) (inr (x, end.0, end.1, refl, same)))
