-- Names of records: what begins with what.
use Rattle.std.proofs.Common.{◌≡◌, inl, inr, ◌⊎◌, ℕ, zero, suc, List, [], ◌∷◌, ◌++◌, length, refl, sym, ap, ap₂, ◌∙◌, append_assoc}
use Rattle.std.specs.Prelude.{Some, slice_get}
use Rattle.std.proofs.lemmas.Option.{none-some, same_Some}
use Rattle.test_runner.specs.Records.{AreApart, AreNoFiles, IsApartFrom, IsNoFile}
use Rattle.test_runner.proofs.Lists.{each-more}

abbrev head-of : List ℕ → ℕ
head-of [] = 0
head-of (x ∷ xs) = x

abbrev tail-of : List ℕ → List ℕ
tail-of [] = []
tail-of (x ∷ xs) = xs

-- of two beginnings of one text, one begins the other
pub one-begins : (xs ys more others : List ℕ) → xs ++ more ≡ ys ++ others
    → ((rest : List ℕ) × (xs ≡ ys ++ rest)) ⊎ ((rest : List ℕ) × (ys ≡ xs ++ rest))
one-begins [] ys more others same = inr (ys, refl)
one-begins (x ∷ xs) [] more others same = inl (x ∷ xs, refl)
one-begins (x ∷ xs) (y ∷ ys) more others same =
    let heads : x ≡ y = ap head-of same in
    elim (one-begins xs ys more others (ap tail-of same)) [
      | inl a ↦ inl (a.0, ap₂ (λ (z : ℕ) (zs : List ℕ). z ∷ zs) heads a.1)
      | inr b ↦ inr (b.0, ap₂ (λ (z : ℕ) (zs : List ℕ). z ∷ zs) (sym heads) b.1)
    ]

-- what begins with more begins with less
pub no-file-longer : (files : List (List ℕ)) (name more : List ℕ) → IsNoFile files name → IsNoFile files (name ++ more)
no-file-longer files name more is k file label at same =
    is k file (more ++ label) at (same ∙ ap (λ (text : List ℕ). Some text) (append_assoc name more label))

pub apart-longer : (names : List (List ℕ)) (name more : List ℕ) → IsApartFrom names name → IsApartFrom names (name ++ more)
apart-longer names name more is k other label another at same =
    is k other label (more ++ another) at (same ∙ append_assoc name more another)

-- a name more
pub no-files-more : (files names : List (List ℕ)) (name : List ℕ) → AreNoFiles files names → IsNoFile files name
    → AreNoFiles files (names ++ name ∷ [])
no-files-more files names name are is = each-more (λ k x. IsNoFile files x) names name are is

slice_get-either : (xs : List (List ℕ)) (x : List ℕ) (k : ℕ) (y : List ℕ) → slice_get (xs ++ x ∷ []) k ≡ Some y
    → (slice_get xs k ≡ Some y) ⊎ ((k ≡ length xs) × (x ≡ y))
slice_get-either [] x zero y at = inr (refl, same_Some x y at)
slice_get-either [] x (suc k) y at = absurd (none-some y at)
slice_get-either (z ∷ xs) x zero y at = inl at
slice_get-either (z ∷ xs) x (suc k) y at =
    elim (slice_get-either xs x k y at) [ inl a ↦ inl a | inr b ↦ inr (ap suc b.0, b.1) ]

pub apart-more : (names : List (List ℕ)) (name : List ℕ) → AreApart names → IsApartFrom names name → AreApart (names ++ name ∷ [])
apart-more names name are is j k one other label another here there same =
    elim (slice_get-either names name j one here) [
      | inl a ↦
          elim (slice_get-either names name k other there) [
            | inl b ↦ are j k one other label another a b same
            | inr b ↦ absurd (is j one label another a (same ∙ ap (λ (text : List ℕ). text ++ another) (sym b.1)))
          ]
      | inr a ↦
          elim (slice_get-either names name k other there) [
            | inl b ↦ absurd (is k other another label b (sym same ∙ ap (λ (text : List ℕ). text ++ label) (sym a.1)))
            | inr b ↦ a.0 ∙ sym b.0
          ]
    ]
