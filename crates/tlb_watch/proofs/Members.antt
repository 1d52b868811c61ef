-- Members of lists, through appending and filtering.
use Rattle.std.proofs.Common.{◌≡◌, Bool, true, false, List, [], ◌∷◌, ◌++◌, refl, sym, subst, ap, ◌∙◌, inl, inr, cond}
use Rattle.std.specs.Prelude.{◌⊎◌, filter}
use Rattle.std.specs.List.{All, Contains}
use Rattle.std.proofs.lemmas.List.Elements.{All-cons, All-contains, All-head, All-nil, All-tail}
use Rattle.tlb_watch.specs.Sets.{HaveSameMembers, IsIn}

module _ {A : Type 0} where
  pub in-left : (xs ys : List A) (x : A) → IsIn xs x → IsIn (xs ++ ys) x
  in-left [] ys x there = absurd there
  in-left (y ∷ xs) ys x (inl same) = inl same
  in-left (y ∷ xs) ys x (inr there) = inr (in-left xs ys x there)

  pub in-right : (xs ys : List A) (x : A) → IsIn ys x → IsIn (xs ++ ys) x
  in-right [] ys x there = there
  in-right (y ∷ xs) ys x there = inr (in-right xs ys x there)

  pub in-cases : (xs ys : List A) (x : A) → IsIn (xs ++ ys) x → IsIn xs x ⊎ IsIn ys x
  in-cases [] ys x there = inr there
  in-cases (y ∷ xs) ys x (inl same) = inl (inl same)
  in-cases (y ∷ xs) ys x (inr there) = later (in-cases xs ys x there)
    where
      later : IsIn xs x ⊎ IsIn ys x → IsIn (y ∷ xs) x ⊎ IsIn ys x
      later (inl here) = inl (inr here)
      later (inr there) = inr there

  -- ---- filters

  module _ (p : A → Bool) where
    put : (b : Bool) (y : A) (rest : List A) (x : A) → IsIn rest x → IsIn (cond b (y ∷ rest) rest) x
    put true y rest x there = inr there
    put false y rest x there = there

    first : (b : Bool) (y : A) (rest : List A) (x : A) → b ≡ true → y ≡ x → IsIn (cond b (y ∷ rest) rest) x
    first true y rest x passes same = inl same
    first false y rest x passes same = cc

    pub in-filter : (xs : List A) (x : A) → p x ≡ true → IsIn xs x → IsIn (filter p xs) x
    in-filter [] x passes there = absurd there
    in-filter (y ∷ xs) x passes (inl same) = first (p y) y (filter p xs) x (ap p same ∙ passes) same
    in-filter (y ∷ xs) x passes (inr there) = put (p y) y (filter p xs) x (in-filter xs x passes there)

    pub out-filter : (xs : List A) (x : A) → IsIn (filter p xs) x → IsIn xs x × (p x ≡ true)
    out-filter [] x there = absurd there
    out-filter (y ∷ xs) x there = by_test (λ there. out-filter xs x there) (p y) refl there
      where
        behind : IsIn xs x × (p x ≡ true) → IsIn (y ∷ xs) x × (p x ≡ true)
        behind rest = (inr rest.0, rest.1)

        kept : (IsIn (filter p xs) x → IsIn xs x × (p x ≡ true)) → p y ≡ true → (y ≡ x) ⊎ IsIn (filter p xs) x → IsIn (y ∷ xs) x × (p x ≡ true)
        kept more passes (inl same) = (inl same, sym (ap p same) ∙ passes)
        kept more passes (inr there) = behind (more there)

        by_test : (IsIn (filter p xs) x → IsIn xs x × (p x ≡ true)) → (b : Bool) → p y ≡ b → IsIn (cond b (y ∷ filter p xs) (filter p xs)) x → IsIn (y ∷ xs) x × (p x ≡ true)
        by_test more true is there = kept more is there
        by_test more false is there = behind (more there)

  -- ---- what holds of all members

  pub all-in : (P : A → Type 0) (xs : List A) → ((x : A) → IsIn xs x → P x) → All P xs
  all-in P [] holds = All-nil P
  all-in P (x ∷ xs) holds = All-cons P x xs (holds x (inl refl)) (all-in P xs (λ y there. holds y (inr there)))

  pub in-all : (P : A → Type 0) (xs : List A) (x : A) → All P xs → IsIn xs x → P x
  in-all P [] x all there = absurd there
  in-all P (y ∷ xs) x all (inl same) = subst P same (All-head P y xs all)
  in-all P (y ∷ xs) x all (inr there) = in-all P xs x (All-tail P y xs all) there

  -- ---- the same members

  pub same-self : (xs : List A) → HaveSameMembers xs xs
  same-self xs x = (λ there. there, λ there. there)

  pub same-turned : (xs ys : List A) → HaveSameMembers xs ys → HaveSameMembers ys xs
  same-turned xs ys same x = ((same x).1, (same x).0)

  pub same-on : (xs ys zs : List A) → HaveSameMembers xs ys → HaveSameMembers ys zs → HaveSameMembers xs zs
  same-on xs ys zs one two x = (λ there. (two x).0 ((one x).0 there), λ there. (one x).1 ((two x).1 there))

  joined : (xs ys us vs : List A) → ((x : A) → IsIn xs x → IsIn ys x) → ((x : A) → IsIn us x → IsIn vs x) → (x : A) → IsIn (xs ++ us) x → IsIn (ys ++ vs) x
  joined xs ys us vs left right x there = by_side (in-cases xs us x there)
    where
      by_side : IsIn xs x ⊎ IsIn us x → IsIn (ys ++ vs) x
      by_side (inl there) = in-left ys vs x (left x there)
      by_side (inr there) = in-right ys vs x (right x there)

  pub same-joined : (xs ys us vs : List A) → HaveSameMembers xs ys → HaveSameMembers us vs → HaveSameMembers (xs ++ us) (ys ++ vs)
  same-joined xs ys us vs left right x =
      (joined xs ys us vs (λ x. (left x).0) (λ x. (right x).0) x, joined ys xs vs us (λ x. (left x).1) (λ x. (right x).1) x)

  pub same-filtered : (p : A → Bool) (xs ys : List A) → HaveSameMembers xs ys → HaveSameMembers (filter p xs) (filter p ys)
  same-filtered p xs ys same x = (
    λ there. let kept = out-filter p xs x there in in-filter p ys x kept.1 ((same x).0 kept.0),
    λ there. let kept = out-filter p ys x there in in-filter p xs x kept.1 ((same x).1 kept.0),
  )

  pub same-by : (xs ys us vs : List A) → xs ≡ us → ys ≡ vs → HaveSameMembers us vs → HaveSameMembers xs ys
  same-by xs ys us vs left right same =
      subst (λ (l : List A). HaveSameMembers l ys) (sym left) (subst (λ (l : List A). HaveSameMembers us l) (sym right) same)

  pub all-same : (P : A → Type 0) (xs ys : List A) → HaveSameMembers xs ys → All P ys → All P xs
  all-same P xs ys same all = all-in P xs (λ x there. in-all P ys x all ((same x).0 there))

  pub contained : (xs : List A) (x : A) → Contains xs x → IsIn xs x
  contained xs x there = All-contains (IsIn xs) xs x (all-in (IsIn xs) xs (λ y there. there)) there

  pub has-one : (xs ys : List A) (x : A) → IsIn xs x → HaveSameMembers xs ys → HaveSameMembers xs (ys ++ x ∷ [])
  has-one xs ys x here same y = (λ there. in-left ys (x ∷ []) y ((same y).0 there), λ there. by_side (in-cases ys (x ∷ []) y there))
    where
      by_side : IsIn ys y ⊎ IsIn (x ∷ []) y → IsIn xs y
      by_side (inl there) = (same y).1 there
      by_side (inr (inl is)) = subst (λ (z : A). IsIn xs z) is here
      by_side (inr (inr none)) = absurd none
