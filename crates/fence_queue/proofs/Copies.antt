-- A list that becomes a copy of another one, item by item.
use Rattle.std.proofs.Common.{◌≡◌, ℕ, ◌+◌, ◌<◌, ◌≤◌, List, length, get_or, set, sym, ap, ◌∙◌, inl, inr, arith}
use Rattle.std.proofs.lemmas.Bool.{cases_eq}
use Rattle.std.proofs.lemmas.List.{get_or-set_other, get_or-set_same, get_or_default, same_lists}

module _ {X : Type 0} where
  -- the items before a place are those of the other list
  abbrev pub AreCopied : (xs ys : List X) (to : ℕ) → Type 0
  AreCopied xs ys to = (k : ℕ) (d : X) → k < to → get_or xs k d ≡ get_or ys k d

  -- one more
  pub copied-more : (xs ys : List X) (i : ℕ) (x y : X) → length xs ≡ length ys → i < length ys → x ≡ y → y ≡ get_or ys i y → AreCopied xs ys i
      → AreCopied (set xs i x) ys (i + 1)
  copied-more xs ys i x y long within same here before = λ k d below. elim (cases_eq k i) [
    | inl at ↦
        ap (λ j. get_or (set xs i x) j d) at ∙ get_or-set_same xs i x d (omega (arith, long)) ∙ same ∙ here ∙ get_or_default ys i y d within
        ∙ ap (λ j. get_or ys j d) (sym at)
    | inr other ↦ get_or-set_other xs i k x d other ∙ before k d (omega arith)
  ]

  -- and all
  pub all-copied : (xs ys : List X) (to : ℕ) → length xs ≡ length ys → length ys ≤ to → AreCopied xs ys to → xs ≡ ys
  all-copied xs ys to long most copied = same_lists xs ys long (λ k d below. copied k d (omega (arith, long)))
