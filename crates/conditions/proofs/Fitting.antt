-- Patterns, word by word.
use Rattle.std.proofs.Common.{◌≡◌, ℕ, ◌+◌, ◌<◌, ◌≤◌, List, Bool, true, false, length, get_or, sym, ◌∙◌, subst, below_more, arith}
use Rattle.std.specs.Prelude.{Option, Some, None, slice_get}
use Rattle.std.proofs.lemmas.Option.{get_or_from_slice_get, slice_get-get_or, slice_get_within}
use Rattle.condition_script.specs.declared.items.Item.{Item}
use Rattle.conditions.specs.Patterns.{Fits, FitsWord}

-- the words before a place fit
abbrev pub FitBefore : List (Option Item) → List Item → ℕ → Type 0
FitBefore pattern items n = (k : ℕ) → k < n → (wanted : Option Item) → slice_get pattern k ≡ Some wanted → FitsWord wanted (slice_get items k)

fits-here : (xs : List (Option Item)) (n : ℕ) (wanted found : Option Item) → FitsWord (get_or xs n None) found → slice_get xs n ≡ Some wanted → FitsWord wanted found
fits-here xs n wanted found fits at =
    let P : Option Item → Type 0 = λ w. FitsWord w found in
    subst P (get_or_from_slice_get xs n wanted None at) fits

pub keeps : (pattern xs : List (Option Item)) (items : List Item) (found : Option Item) (n : ℕ) → xs ≡ pattern → found ≡ slice_get items n
    → FitsWord (get_or xs n None) found → FitBefore pattern items n → FitBefore pattern items (n + 1)
keeps pattern xs items found n same is fits before =
    let P : ℕ → Type 0 = λ k. (wanted : Option Item) → slice_get pattern k ≡ Some wanted → FitsWord wanted (slice_get items k) in
    let Q : List (Option Item) → Type 0 = λ ys. FitsWord (get_or ys n None) (slice_get items n) in
    let R : Option Item → Type 0 = λ w. FitsWord (get_or xs n None) w in
    below_more P n before (λ wanted at. fits-here pattern n wanted (slice_get items n) (subst Q same (subst R is fits)) at)

pub whole : (pattern xs : List (Option Item)) (items : List Item) (n : ℕ) → xs ≡ pattern → length xs ≤ n → FitBefore pattern items n → Fits pattern items
whole pattern xs items n same long before k wanted at =
    let P : List (Option Item) → Type 0 = λ ys. length ys ≤ n in
    let most : length pattern ≤ n = subst P same long in
    let within : k < length pattern = slice_get_within pattern k wanted at in
    before k (omega arith) wanted at

pub misfit : (pattern xs : List (Option Item)) (items : List Item) (found : Option Item) (n : ℕ) (told : Bool) → xs ≡ pattern → found ≡ slice_get items n → n < length xs
    → (FitsWord (get_or xs n None) found → told ≡ true) → told ≡ false → ¬ Fits pattern items
misfit pattern xs items found n told same is below tells bad fits =
    let P : List (Option Item) → Type 0 = λ ys. FitsWord (get_or ys n None) (slice_get items n) in
    let Q : List (Option Item) → Type 0 = λ ys. n < length ys in
    let R : Option Item → Type 0 = λ w. FitsWord (get_or xs n None) w in
    let here : FitsWord (get_or pattern n None) (slice_get items n) = fits n (get_or pattern n None) (slice_get-get_or pattern n None (subst Q same below)) in
    let good : told ≡ true = tells (subst R (sym is) (subst P (sym same) here)) in
    let contrary : true ≡ false = sym good ∙ bad in
    cc
