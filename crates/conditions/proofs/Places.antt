-- What stands behind the first words.
use Rattle.std.proofs.Common.{◌≡◌, ℕ, zero, suc, ◌-◌, ◌≤◌, List, ◌∷◌, sym, ap, ◌∙◌, length, map, arith}
use Rattle.std.proofs.lemmas.List.{length-map}
use Rattle.std.proofs.lemmas.Option.{slice_get_past}
use Rattle.std.specs.Prelude.{None, slice_get}
use Rattle.condition_script.specs.declared.items.Item.{Item}
use Rattle.condition_script.specs.declared.items.Item.TheVariants.{Number}

pub behind : (x : Item) (xs : List Item) (place : ℕ) → 1 ≤ place → slice_get (x ∷ xs) place ≡ slice_get xs (place - 1)
behind x xs zero some = absurd (omega arith)
behind x xs (suc n) some =
    let same : n ≡ suc n - 1 = omega arith in
    ap (λ (k : ℕ). slice_get xs k) same

behind-two : (x y : Item) (xs : List Item) (place : ℕ) → 2 ≤ place → slice_get (x ∷ y ∷ xs) place ≡ slice_get xs (place - 2)
behind-two x y xs zero some = absurd (omega arith)
behind-two x y xs (suc zero) some = absurd (omega arith)
behind-two x y xs (suc (suc n)) some =
    let same : n ≡ suc (suc n) - 2 = omega arith in
    ap (λ (k : ℕ). slice_get xs k) same

pub none-behind-two : (x y : Item) (ns : List ℕ) (place : ℕ) → 2 ≤ place → length ns ≤ place - 2 → None ≡ slice_get (x ∷ y ∷ map Number ns) place
none-behind-two x y ns place behind short =
    let past : length (map Number ns) ≤ place - 2 = rw length-map short in
    sym (behind-two x y (map Number ns) place behind ∙ slice_get_past (map Number ns) (place - 2) past)
