-- Lists that are filtered twice, mapped, turned round or searched.
use Rattle.std.proofs.Common.{◌≡◌, Bool, true, false, cond, not, ◌&&◌, List, [], ◌∷◌, ◌++◌, refl, sym, ap, ◌∙◌}
use Rattle.std.specs.Prelude.{filter, reverse}
use Rattle.std.specs.List.{All}
use Rattle.tlb_model.specs.declared.cache.Numbered.{Numbered}
use Rattle.tlb_model.specs.Contents.{Contents, cleared, fenced}
use Rattle.std.proofs.lemmas.List.{append-nil, reverse-append}
use Rattle.std.proofs.lemmas.List.Elements.{All-head, All-tail, filter-append}

-- two tests that agree at each element of the list keep the same
pub filter-agree_within : {A : Type 0} (p q : A → Bool) (xs : List A) → All (λ x. p x ≡ q x) xs → filter p xs ≡ filter q xs
filter-agree_within p q [] agree = refl
filter-agree_within p q (x ∷ xs) agree =
    let here : p x ≡ q x = All-head (λ y. p y ≡ q y) x xs agree in
    let rest = filter-agree_within p q xs (All-tail (λ y. p y ≡ q y) x xs agree) in
    rw (here, rest) refl

pub filter-both : {A : Type 0} (p q : A → Bool) (xs : List A) → filter (λ x. p x && q x) xs ≡ filter q (filter p xs)
filter-both p q [] = refl
filter-both {A} p q (x ∷ xs) = by_test (p x) (filter-both p q xs)
  where
    by_test : (b : Bool) → filter (λ y. p y && q y) xs ≡ filter q (filter p xs)
        → cond (b && q x) (x ∷ filter (λ y. p y && q y) xs) (filter (λ y. p y && q y) xs) ≡ filter q (cond b (x ∷ filter p xs) (filter p xs))
    by_test true rest = ap (λ (ys : List A). cond (q x) (x ∷ ys) ys) rest
    by_test false rest = rest

pub filter-reverse : {A : Type 0} (p : A → Bool) (xs : List A) → reverse (filter p xs) ≡ filter p (reverse xs)
filter-reverse p [] = refl
filter-reverse {A} p (x ∷ xs) = by_test (p x) refl (filter-reverse p xs)
  where
    turned : filter p (reverse (x ∷ xs)) ≡ filter p (reverse xs) ++ filter p (x ∷ [])
    turned = ap (filter p) (reverse-append (x ∷ []) xs) ∙ filter-append p (reverse xs) (x ∷ [])

    by_test : (b : Bool) → p x ≡ b → reverse (filter p xs) ≡ filter p (reverse xs) → reverse (cond b (x ∷ filter p xs) (filter p xs)) ≡ filter p (reverse (x ∷ xs))
    by_test true is rest = reverse-append (x ∷ []) (filter p xs) ∙ sym (turned ∙ (rw (is, rest) refl))
    by_test false is rest = rest ∙ sym (turned ∙ (rw is (append-nil (filter p (reverse xs)))))

-- a fence that covers nothing of a cache leaves it as it is
pub fenced-none : {E F : Type 0} (covers : F → E → Bool) (flush : F) (cache : Contents E) → ((item : E) → covers flush item ≡ false)
    → cache ≡ fenced covers cache flush
fenced-none {E} covers flush cache none = ap (λ (live : List (Numbered E)). record cache { live = live }) (sym (kept cache.live))
  where
    kept : (fills : List (Numbered E)) → filter (λ (fill : Numbered E). not (covers flush fill.item)) fills ≡ fills
    kept [] = refl
    kept (fill ∷ fills) = rw (none fill.item) (ap (λ (others : List (Numbered E)). fill ∷ others) (kept fills))

-- a fence that covers all that a cache can hold clears it
pub fenced-all : {E F : Type 0} (covers : F → E → Bool) (flush : F) (cache : Contents E) → ((item : E) → covers flush item ≡ true)
    → cleared cache ≡ fenced covers cache flush
fenced-all {E} covers flush cache all = ap (λ (live : List (Numbered E)). record cache { live = live }) (none cache.live)
  where
    none : (fills : List (Numbered E)) → [] ≡ filter (λ (fill : Numbered E). not (covers flush fill.item)) fills
    none [] = refl
    none (fill ∷ fills) = rw (all fill.item) (none fills)
