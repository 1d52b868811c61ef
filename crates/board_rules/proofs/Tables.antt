-- Lists made by index, and what one event changes of them.
use Rattle.std.proofs.Common.{◌≡◌, ◌≢◌, ℕ, ◌+◌, Bool, true, false, cond, List, [], ◌∷◌, length, map, refl, sym, ap, ◌∙◌, arith, inl, inr, eqb}
use Rattle.std.specs.Prelude.{Some, None, count_by, sum_by}
use Rattle.std.specs.List.{cons_option, filter_map, range_with_len}
use Rattle.std.proofs.lemmas.Bool.Decides.{eqb_tells}
use Rattle.std.specs.Global.{Vec}
use Rattle.std.specs.Vec.{with_items}
use Rattle.std.proofs.lemmas.List.{with_items_is}
use Rattle.std.proofs.lemmas.List.Sums.{sum_by-cons}
use Rattle.std.proofs.lemmas.List.FromFn.{length-map-range_with_len}

pub eqb-other : (a b : ℕ) → a ≢ b → eqb a b ≡ false
eqb-other a b differ = elim (eqb_tells a b) [
  | inl same ↦ absurd (differ same.1)
  | inr other ↦ other.0
]

pub eqb-same : (a : ℕ) → eqb a a ≡ true
eqb-same a = elim (eqb_tells a a) [
  | inl same ↦ same.0
  | inr other ↦ absurd (other.1 refl)
]

-- a function that nothing changed makes the same list
pub tabulate-same : {A : Type 0} (f g : ℕ → A) → ((j : ℕ) → g j ≡ f j) → (xs : List ℕ) → map f xs ≡ map g xs
tabulate-same f g same [] = refl
tabulate-same f g same (x ∷ xs) = rw (same x, tabulate-same f g same xs) refl

-- a vector whose elements are put there anew, each made by its index
pub tabulated-items : {A : Type 0} (v : Vec A) (ws : List A) (f : ℕ → A) (n : ℕ) → length v.items ≡ n → ws ≡ map f (range_with_len 0 n)
    → (with_items v ws).items ≡ map f (range_with_len 0 n)
tabulated-items v ws f n long is = with_items_is v ws (ap length is ∙ length-map-range_with_len f 0 n ∙ sym long ∙ sym v.ok.0) ∙ is

pub sum_by-map : {A B : Type 0} (g : B → ℕ) (f : A → B) (xs : List A) → sum_by g (map f xs) ≡ sum_by (λ x. g (f x)) xs
sum_by-map g f [] = refl
sum_by-map g f (x ∷ xs) = sum_by-cons g (f x) (map f xs) ∙ ap (λ n. g (f x) + n) (sum_by-map g f xs) ∙ sym (sum_by-cons (λ y. g (f y)) x xs)

pub count_by-map : {A B : Type 0} (p : B → Bool) (f : A → B) (xs : List A) → count_by p (map f xs) ≡ count_by (λ x. p (f x)) xs
count_by-map p f xs = sum_by-map (λ y. cond (p y) 1 0) f xs

longer : {B : Type 0} (b : Bool) (y : B) (ys : List B) (n : ℕ) → length ys ≡ n
    → length (cons_option (cond b (Some y) None) ys) ≡ cond b 1 0 + n
longer true y ys n long = omega arith
longer false y ys n long = omega arith

-- a value is kept for each element that passes
pub length-filter_map : {A B : Type 0} (p : A → Bool) (f : A → B) (xs : List A)
    → length (filter_map (λ x. cond (p x) (Some (f x)) None) xs) ≡ count_by p xs
length-filter_map p f [] = refl
length-filter_map p f (x ∷ xs) =
    longer (p x) (f x) _ _ (length-filter_map p f xs) ∙ sym (sum_by-cons (λ y. cond (p y) 1 0) x xs)
