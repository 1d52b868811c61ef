-- Shares of orders, put together.
use Rattle.std.proofs.Common.{◌≡◌, ℕ, suc, ◌+◌, ◌-◌, ◌*◌, ◌<◌, ◌≤◌, List, [], ◌∷◌, subst, length, get_or, arith}
use Rattle.std.specs.Prelude.{min, Result}
use Rattle.board_terms.specs.declared.config.Config.{Config}
use Rattle.conditions.specs.Condition.{Condition}
use Rattle.guest_script.specs.Grammar.{Content}
use Rattle.guest_programs.specs.declared.ends.RunFault.{RunFault}
use Rattle.outcome_statistics.specs.declared.findings.Findings.{Findings}
use Rattle.outcome_statistics.specs.Inside.Shares.{AreShares, IsShare}

shares-given : (c : Config) (content : Content) (conditions : List Condition) (seed : ℕ) (edges : ℕ → ℕ) (i : ℕ) (xs : List (Result Findings RunFault))
    → ((k : ℕ) (d : Result Findings RunFault) → k < length xs → IsShare c content conditions seed edges (i + k) (get_or xs k d))
    → AreShares c content conditions seed edges i xs
shares-given c content conditions seed edges i [] each = tt
shares-given c content conditions seed edges i (x ∷ xs) each =
    let P : Result Findings RunFault → ℕ → Type 0 = λ y n. IsShare c content conditions seed edges n y in (
      subst (P x) (let e : i + 0 ≡ i = omega arith in e) (each 0 x (omega arith)),
      shares-given c content conditions seed edges (i + 1) xs
          (λ k d below. subst (P (get_or xs k d)) (let e : i + suc k ≡ i + 1 + k = omega arith in e) (each (suc k) d (omega arith))),
    )

-- What was found of all shares, from what was found of each.
pub shares-all : (c : Config) (content : Content) (conditions : List Condition) (seed : ℕ) (edges : ℕ → ℕ) (xs : List (Result Findings RunFault))
    → ((k : ℕ) (d : Result Findings RunFault) → k < length xs → IsShare c content conditions seed edges k (get_or xs k d))
    → AreShares c content conditions seed edges 0 xs
shares-all c content conditions seed edges xs each =
    shares-given c content conditions seed edges 0 xs
    (λ k d below. subst (λ (n : ℕ). IsShare c content conditions seed edges n (get_or xs k d)) (let e : k ≡ 0 + k = omega arith in e) (each k d below))

-- the last share ends where the orders do
pub last-edge : (from to share n : ℕ) → from ≤ to → to - from < n * share → min to (from + n * share) ≡ to
last-edge from to share n up whole = grind arith

-- the first begins where they do
pub first-edge : (from to share : ℕ) → from ≤ to → min to (from + 0 * share) ≡ from
first-edge from to share up = grind arith
