-- Blocks by their places in the list.
use Rattle.std.proofs.Common.{◌≡◌, ℕ, zero, suc, ◌+◌, ◌<◌, ◌≤◌, ◌==◌, Bool, true, false, if◌then◌else◌, List, [], ◌∷◌, length, map, drop, get_or, refl, sym, ap, ◌∙◌, arith}
use Rattle.std.specs.Prelude.{Option, Some, nat_lt}
use Rattle.std.specs.Ordering.{is_eq, nat_cmp}
use Rattle.std.specs.declared.cmp.Ordering.TheVariants as orders
use Rattle.std.proofs.Math.Bool.{cond}
use Rattle.std.proofs.lemmas.Bool.{eqb-true, le-ltb}
use Rattle.std.proofs.lemmas.List.{drop_more}
use Rattle.board_terms.specs.declared.op.Op.{Op}
use Rattle.guest_script.specs.Grammar.{Guest}
use Rattle.guest_programs.specs.Blocks.{block_at, ops_at, ops_found}

same-key : (below same : Bool) → (same ≡ true → below ≡ false) → is_eq (cond below orders.Less (cond same orders.Equal orders.Greater)) ≡ same
same-key true true other = absurd (let t = other refl in cc)
same-key true false other = refl
same-key false true other = refl
same-key false false other = refl

at-key : (x y : ℕ) → is_eq (nat_cmp x y) ≡ (x == y)
at-key x y = same-key (nat_lt x y) (x == y) (λ same. le-ltb x y (let is = eqb-true x y same in omega arith))

picks : (blocks : List Guest) (same : Bool) (k : ℕ) (found : Option ℕ) (here rest : List Op) → ops_at blocks k ≡ here → ops_found blocks found ≡ rest
    → ops_found blocks (cond same (Some k) found) ≡ (if same then here else rest)
picks blocks true k found here rest is other = is
picks blocks false k found here rest is other = other

module _ {B : Type 0} (guest : B → Guest) where
  pub ops-here : (blocks : List B) (k : ℕ) (d : B) → k < length blocks → ops_at (map guest blocks) k ≡ (guest (get_or blocks k d)).ops
  ops-here [] k d within = absurd (omega arith)
  ops-here (block ∷ blocks) zero d within = refl
  ops-here (block ∷ blocks) (suc k) d within = ops-here blocks k d (omega arith)

  pub ops-past : (blocks : List B) (k : ℕ) → length blocks ≤ k → [] ≡ ops_at (map guest blocks) k
  ops-past [] k past = refl
  ops-past (block ∷ blocks) zero past = absurd (omega arith)
  ops-past (block ∷ blocks) (suc k) past = ops-past blocks k (omega arith)

  pub first-more : (blocks : List B) (k : ℕ) (d : B) (found : Option ℕ) (addr : ℕ) → k < length blocks
      → ops_found (map guest blocks) found ≡ block_at (map guest (drop (k + 1) blocks)) addr
      → ops_found (map guest blocks) (cond (is_eq (nat_cmp (guest (get_or blocks k d)).addr addr)) (Some k) found) ≡ block_at (map guest (drop k blocks)) addr
  first-more blocks k d found addr within before =
      let block : B = get_or blocks k d in
      let rest : List Op = block_at (map guest (drop (k + 1) blocks)) addr in
      ap (λ (same : Bool). ops_found (map guest blocks) (cond same (Some k) found)) (at-key (guest block).addr addr)
      ∙ picks (map guest blocks) ((guest block).addr == addr) k found (guest block).ops rest (ops-here blocks k d within) before
      ∙ ap (λ (bs : List B). block_at (map guest bs) addr) (sym (drop_more blocks k d within))
