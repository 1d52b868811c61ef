-- Lists made by index, and what a change at one place makes of them.
use Rattle.std.proofs.Common.{◌≡◌, ◌≢◌, ℕ, ◌<◌, set, map, sym, ◌∙◌, arith, inl, inr}
use Rattle.std.specs.List.{range_with_len}
use Rattle.std.proofs.lemmas.Bool.Decides.{eqb_tells}
use Rattle.std.proofs.lemmas.List.{same_lists, get_or-set_same, get_or-set_other, length-set}
use Rattle.std.proofs.lemmas.List.FromFn.{length-map-range_with_len, get_or-map-range_with_len}

-- a list made by f, with place i written, is made by g, which differs from f there alone
pub tabulate-set : {A : Type 0} (f g : ℕ → A) (n i : ℕ) → ((j : ℕ) → i ≢ j → g j ≡ f j)
    → set (map f (range_with_len 0 n)) i (g i) ≡ map g (range_with_len 0 n)
tabulate-set f g n i others =
    let long = length-map-range_with_len f 0 n in
    same_lists _ _ (length-set (map f (range_with_len 0 n)) i (g i) ∙ long ∙ sym (length-map-range_with_len g 0 n)) (λ j d in_range.
    let below : j < n = omega (arith, long, length-set (map f (range_with_len 0 n)) i (g i)) in
    let right = get_or-map-range_with_len g 0 n j j d below (omega arith) in
    elim (eqb_tells i j) [
      | inl same ↦ rw same.1 (get_or-set_same (map f (range_with_len 0 n)) j (g j) d (omega arith) ∙ sym right)
      | inr other ↦ get_or-set_other (map f (range_with_len 0 n)) i j (g i) d (λ e. other.1 (sym e))
          ∙ get_or-map-range_with_len f 0 n j j d below (omega arith) ∙ sym (others j other.1) ∙ sym right
    ])
