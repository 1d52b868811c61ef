-- Filters that pass all, and that pass none.
use Rattle.std.proofs.Common.{◌≡◌, true, false, List, [], ◌∷◌, refl, ap}
use Rattle.std.specs.Prelude.{filter}

pub filter-all : {A : Type 0} (xs : List A) → xs ≡ filter (λ x. true) xs
filter-all [] = refl
filter-all (x ∷ xs) = ap (λ rest. x ∷ rest) (filter-all xs)

pub filter-none : {A : Type 0} (xs : List A) → [] ≡ filter (λ x. false) xs
filter-none [] = refl
filter-none (x ∷ xs) = filter-none xs
