-- What is told of the items of a list that are written over one by one.
use Rattle.std.proofs.Common.{◌≡◌, ◌≢◌, ◌⊎◌, ℕ, zero, suc, ◌+◌, ◌<◌, ◌≤◌, List, [], ◌∷◌, refl, ap, subst, sym, inl, inr, length, get_or, set, arith}
use Rattle.std.specs.Prelude.{Some, Result, Ok, Err, OnOk, slice_get}
use Rattle.std.proofs.lemmas.Option.{slice_get-get_or}
use Rattle.conditions.specs.Condition.{Condition}
use Rattle.outcome_statistics.specs.declared.findings.Judged.{Judged}
use Rattle.outcome_statistics.specs.Records.{Tried}
use Rattle.outcome_statistics.specs.Findings.{EachTells, IsFoundFor}

set-cases : {A : Type 0} (xs : List A) (i k : ℕ) (v j : A) → i < length xs → slice_get (set xs i v) k ≡ Some j → ((k ≡ i) × (j ≡ v)) ⊎ ((k ≢ i) × (slice_get xs k ≡ Some j))
set-cases [] i k v j within at = absurd (omega arith)
set-cases (x ∷ xs) zero zero v j within at = inl (refl, (let t = at in cc))
set-cases (x ∷ xs) zero (suc k) v j within at = inr ((λ same. absurd (omega arith)), at)
set-cases (x ∷ xs) (suc i) zero v j within at = inr ((λ same. absurd (omega arith)), at)
set-cases (x ∷ xs) (suc i) (suc k) v j within at = elim (set-cases xs i k v j (omega arith) at) [
  | inl here ↦ inl (ap suc here.0, here.1)
  | inr there ↦ inr ((λ same. there.0 (omega arith)), there.1)
]

-- what of the items below a place, and of those from it on
pub told-next : {A : Type 0} (P : ℕ → A → Type 0) (xs : List A) (i : ℕ) (v : A) → i < length xs → P i v → ((k : ℕ) (j : A) → k < i → slice_get xs k ≡ Some j → P k j)
    → (k : ℕ) (j : A) → k < i + 1 → slice_get (set xs i v) k ≡ Some j → P k j
told-next P xs i v within new before k j below at = elim (set-cases xs i k v j within at) [
  | inl here ↦ subst (λ (n : ℕ). P n j) (sym here.0) (subst (P i) (sym here.1) new)
  | inr there ↦ (let other = there.0 in before k j (grind arith) there.1)
]

pub kept-next : {A : Type 0} (xs ys : List A) (i : ℕ) (v : A) → i < length xs → ((k : ℕ) (j : A) → i ≤ k → slice_get xs k ≡ Some j → slice_get ys k ≡ Some j)
    → (k : ℕ) (j : A) → i + 1 ≤ k → slice_get (set xs i v) k ≡ Some j → slice_get ys k ≡ Some j
kept-next xs ys i v within before k j above at = elim (set-cases xs i k v j within at) [
  | inl here ↦ (let same = here.0 in absurd (omega arith))
  | inr there ↦ before k j (omega arith) there.1
]

-- The tallies of conditions, one by one: of one that tells of these records is made one that tells of those.
pub tally-next : (conditions : List Condition) (judged before : List Judged) (i : ℕ) (d v : Judged) (tried after : List Tried) → i < length judged → EachTells conditions tried before
    → ((k : ℕ) (j : Judged) → i ≤ k → slice_get judged k ≡ Some j → slice_get before k ≡ Some j)
    → ((c : Condition) → slice_get conditions i ≡ Some c → IsFoundFor c.rule tried (get_or judged i d) → IsFoundFor c.rule after v)
    → ((k : ℕ) (j : Judged) → k < i → slice_get judged k ≡ Some j → (c : Condition) → slice_get conditions k ≡ Some c → IsFoundFor c.rule after j)
    → (k : ℕ) (j : Judged) → k < i + 1 → slice_get (set judged i v) k ≡ Some j → (c : Condition) → slice_get conditions k ≡ Some c → IsFoundFor c.rule after j
tally-next conditions judged before i d v tried after within each kept step told =
    let P : ℕ → Judged → Type 0 = λ k j. (c : Condition) → slice_get conditions k ≡ Some c → IsFoundFor c.rule after j in
    let here : slice_get judged i ≡ Some (get_or judged i d) = slice_get-get_or judged i d within in
    told-next P judged i v within (λ c asked. step c asked (each i c (get_or judged i d) asked (kept i (get_or judged i d) (omega arith) here))) told

pub on-ok-by : {T E : Type 0} (found : Result T E) (Q P : Type 0) → OnOk found Q → (Q → P) → OnOk found P
on-ok-by (Ok x) Q P has then = then has
on-ok-by (Err e) Q P has then = tt

pub on-ok-any : {T E : Type 0} (found : Result T E) (P : Type 0) → P → OnOk found P
on-ok-any (Ok x) P holds = holds
on-ok-any (Err e) P holds = tt
