-- Items of a list, one by one.
use Rattle.std.proofs.Common.{◌≡◌, ℕ, ◌+◌, ◌<◌, ◌≤◌, List, length, get_or, ap, sym, ◌∙◌, subst, below_more, arith}
use Rattle.std.specs.Prelude.{Some, slice_get}
use Rattle.std.proofs.lemmas.Option.{get_or_from_slice_get, slice_get-get_or, slice_get_within}

module _ {X : Type 0} (P : X → Type 0) (xs : List X) where
  abbrev pub EachBefore : ℕ → Type 0
  EachBefore n = (k : ℕ) → k < n → (x : X) → slice_get xs k ≡ Some x → P x

  pub each-keep : (n : ℕ) (d : X) → d ≡ get_or xs n d → P d → EachBefore n → EachBefore (n + 1)
  each-keep n d is holds before =
      let Q : ℕ → Type 0 = λ k. (x : X) → slice_get xs k ≡ Some x → P x in
      below_more Q n before (λ x at. subst P (is ∙ get_or_from_slice_get xs n x d at) holds)

  pub each-whole : (n : ℕ) → length xs ≤ n → EachBefore n → (k : ℕ) (x : X) → slice_get xs k ≡ Some x → P x
  each-whole n long before k x at =
      let within : k < length xs = slice_get_within xs k x at in
      before k (omega arith) x at

  pub some-here : (n : ℕ) (d : X) → n < length xs → d ≡ get_or xs n d → P d → (k : ℕ) × (x : X) × (slice_get xs k ≡ Some x) × P x
  some-here n d below is holds = (n, d, slice_get-get_or xs n d below ∙ ap (λ (x : X). Some x) (sym is), holds)
