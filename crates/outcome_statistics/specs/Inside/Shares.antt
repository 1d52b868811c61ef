-- Shares of orders: private.
use Rattle.std.specs.Prelude.{◌≡◌, ◌⊎◌, ℕ, ◌+◌, ◌*◌, min, List, [], ◌∷◌, Result, IfErr, IfOk, IsErrOf}
use Rattle.board_terms.specs.Limits.{IsGood}
use Rattle.board_terms.specs.declared.config.Config.{Config}
use Rattle.conditions.specs.Condition.{Condition}
use Rattle.guest_script.specs.Grammar.{Content}
use Rattle.guest_programs.specs.declared.ends.RunFault.{RunFault}
use Rattle.guest_programs.specs.declared.ends.RunFault.TheVariants.{BadConfig, NoMemory}
use Rattle.outcome_statistics.specs.declared.findings.Findings.{Findings}
use Rattle.outcome_statistics.specs.Findings.{AreFoundOf}

-- where share i of the orders begins, and share i - 1 ends
abbrev pub edge : (from to share i : ℕ) → ℕ
edge from to share i = min to (from + i * share)

-- The result of share i, which lies between two edges. BadConfig is answered only for a bad board, and the only other error is
-- NoMemory.
pub record IsShare (c : Config) (content : Content) (conditions : List Condition) (seed : ℕ) (edges : ℕ → ℕ) (i : ℕ)
    (x : Result Findings RunFault) : Type 0 where
  pub found : IfOk x (AreFoundOf c content conditions seed (edges i) (edges (i + 1)))
  pub bad : IsErrOf x BadConfig → ¬ IsGood c
  pub fault : IfErr x (λ fault. (fault ≡ BadConfig) ⊎ (fault ≡ NoMemory))

-- The results of the shares from i on.
abbrev pub AreShares : Config → Content → List Condition → (seed : ℕ) → (edges : ℕ → ℕ) → (i : ℕ)
    → List (Result Findings RunFault) → Type 0
AreShares c content conditions seed edges i [] = Unit {0}
AreShares c content conditions seed edges i (x ∷ xs) =
    IsShare c content conditions seed edges i x × AreShares c content conditions seed edges (i + 1) xs
