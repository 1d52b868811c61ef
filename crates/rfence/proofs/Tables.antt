-- Lists made by index.
use Rattle.std.proofs.Common.{◌≡◌, ℕ, ◌<◌, List, [], ◌∷◌, map, replicate, refl, sym, ap, ◌∙◌, arith}
use Rattle.std.specs.List.{range_with_len}
use Rattle.std.proofs.lemmas.List.{same_lists}
use Rattle.std.proofs.lemmas.List.FromFn.{get_or-map-range_with_len, length-map-range_with_len, length-range_with_len}
use Rattle.std.proofs.lemmas.Simd.{splat_is_map}

-- functions that agree below n make the same list
pub tabulate-agree : {A : Type 0} (f g : ℕ → A) (n : ℕ) → ((t : ℕ) → t < n → f t ≡ g t) → map f (range_with_len 0 n) ≡ map g (range_with_len 0 n)
tabulate-agree f g n agree =
    same_lists _ _ (length-map-range_with_len f 0 n ∙ sym (length-map-range_with_len g 0 n)) (λ t d inside.
    let below : t < n = omega (arith, length-map-range_with_len f 0 n) in
    get_or-map-range_with_len f 0 n t t d below (omega arith) ∙ agree t below ∙ sym (get_or-map-range_with_len g 0 n t t d below (omega arith)))

-- a list made by index, each member changed
pub tabulate-map : {A B : Type 0} (h : A → B) (f : ℕ → A) (xs : List ℕ) → map h (map f xs) ≡ map (λ t. h (f t)) xs
tabulate-map h f [] = refl
tabulate-map h f (x ∷ xs) = ap (λ rest. h (f x) ∷ rest) (tabulate-map h f xs)

-- a list that is made alike at each index
pub tabulate-replicate : {A : Type 0} (f : ℕ → A) (x : A) (n : ℕ) → ((t : ℕ) → f t ≡ x) → replicate n x ≡ map f (range_with_len 0 n)
tabulate-replicate f x n same =
    splat_is_map (range_with_len 0 n) n x (length-range_with_len 0 n) ∙ tabulate-agree (λ _. x) f n (λ t inside. sym (same t))
