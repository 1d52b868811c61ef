use Rattle.std.proofs.Common.{◌≡◌, ℕ, ◌<◌, ◌≤◌, List, ◌∷◌, length}
use Rattle.std.specs.Prelude.{Some, slice_get}
use Rattle.conditions.specs.Condition.{Condition}
use Rattle.outcome_statistics.specs.declared.findings.Judged.{Judged}
use Rattle.outcome_statistics.specs.Findings.{EachTells, IsFoundFor}
use Rattle.outcome_statistics.specs.Records.{Tried}
use Rattle.outcome_statistics.proofs.findings.judge_each.Given as goal

abbrev pub invariant-loop-i : goal.invariant-loop-i
invariant-loop-i l =
    (length l.judged ≡ length l.initial.judged)
    × ((tried : List Tried) (x : Tried) → x.number ≡ l.number → x.events ≡ l.events → x.marks ≡ l.marks → x.end ≡ l.end → EachTells l.conditions tried l.initial.judged
    → (k : ℕ) (j : Judged) → k < l.i → slice_get l.judged k ≡ Some j → (c : Condition) → slice_get l.conditions k ≡ Some c → IsFoundFor c.rule (x ∷ tried) j)
    × ((k : ℕ) (j : Judged) → l.i ≤ k → slice_get l.judged k ≡ Some j → slice_get l.initial.judged k ≡ Some j)
