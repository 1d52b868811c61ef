-- The first step that a pattern means is where a record fails.
use Rattle.std.proofs.Common.{◌≡◌, ℕ, suc, ◌+◌, ◌<◌, ◌≤◌, List, length, sym, ap, ◌∙◌, subst, inl, inr, arith}
use Rattle.std.specs.Prelude.{Option, Some, None, MatchOption, take}
use Rattle.std.proofs.lemmas.Bool.{cases_order}
use Rattle.std.proofs.lemmas.List.{get_or-take, length-take}
use Rattle.std.proofs.lemmas.Option.{get_or_from_slice_get, slice_get-get_or, slice_get_within}
use Rattle.board_core.specs.History.{Event}
use Rattle.conditions.specs.Pattern.{Pattern}
use Rattle.conditions.specs.Rule.{Rule}
use Rattle.conditions.specs.Rule.TheVariants.{Never, NeverAfter, Each, Before}
use Rattle.conditions.specs.Rules.{IsAt, IsFirstFrom, IsFirstUnfit, RepliesFit}
use Rattle.outcome_statistics.specs.Failing.{FailsAt, IsFailingStep}

-- what stands in the first n steps
at-of : (p : Pattern) (events : List Event) (n k : ℕ) → IsAt p (take n events) k → (k < n) × IsAt p events k
at-of p events n k at =
    let short = length-take n events in
    let within = slice_get_within (take n events) k at.0 at.1 in
    let below : k < n = grind arith in
    let there : k < length events = grind arith in
    let same = sym (get_or-take n events k at.0 below) ∙ get_or_from_slice_get (take n events) k at.0 at.0 at.1 in
    (below, (at.0, slice_get-get_or events k at.0 there ∙ ap (λ (x : Event). Some x) same, at.2))

at-in : (p : Pattern) (events : List Event) (n k : ℕ) → k < n → IsAt p events k → IsAt p (take n events) k
at-in p events n k below at =
    let short = length-take n events in
    let within = slice_get_within events k at.0 at.1 in
    let there : k < length (take n events) = grind arith in
    let same = get_or-take n events k at.0 below ∙ get_or_from_slice_get events k at.0 at.0 at.1 in
    (at.0, slice_get-get_or (take n events) k at.0 there ∙ ap (λ (x : Event). Some x) same, at.2)

never-fails : (p : Pattern) (events : List Event) (k : ℕ) → IsFirstFrom p events 0 k → FailsAt (Never p) events k
never-fails p events k first = record {
  within = slice_get_within events k first.here.0 first.here.1;
  before = λ j at. let is = at-of p events k j at in first.none_before j is.0 (omega arith) is.1;
  here = λ none. none k (at-in p events (suc k) k (omega arith) first.here);
}

after-fails : (p q : Pattern) (events : List Event) (m k : ℕ) → IsFirstFrom q events 0 m → IsFirstFrom p events (m + 1) k → FailsAt (NeverAfter p q) events k
after-fails p q events m k from first = record {
  within = slice_get_within events k first.here.0 first.here.1;
  before = λ i j below at_q at_p.
      let q_is = at-of q events k i at_q in
      let p_is = at-of p events k j at_p in
      elim (cases_order i m) [
        | inl same ↦ first.none_before j p_is.0 (omega arith) p_is.1
        | inr (inl less) ↦ absurd (from.none_before i less (omega arith) q_is.1)
        | inr (inr more) ↦ first.none_before j p_is.0 (omega arith) p_is.1
      ];
  here = λ all.
      let behind : m < k = let b = first.behind in omega arith in
      all m k behind (at-in q events (suc k) m (omega arith) from.here) (at-in p events (suc k) k (omega arith) first.here);
}

pub failing-never : (rule : Rule) (p : Pattern) (events : List Event) (found : Option ℕ) → rule ≡ Never p
    → MatchOption found ((k : ℕ) → 0 ≤ k → ¬ IsAt p events k) (IsFirstFrom p events 0) → IsFailingStep rule events found
failing-never rule p events None same search = subst (λ r. IsFailingStep r events None) (sym same) (λ k. search k (omega arith))
failing-never rule p events (Some k) same search = subst (λ r. IsFailingStep r events (Some k)) (sym same) (never-fails p events k search)

pub failing-after-none : (p q : Pattern) (events : List Event) (first found : Option ℕ) → MatchOption first ((k : ℕ) → 0 ≤ k → ¬ IsAt q events k) (IsFirstFrom q events 0)
    → first ≡ None → found ≡ None → IsFailingStep (NeverAfter p q) events found
failing-after-none p q events None found search none is = subst (IsFailingStep (NeverAfter p q) events) (sym is) (λ j k below at. absurd (search j (omega arith) at))
failing-after-none p q events (Some k) found search none is = absurd (let t = none in cc)

pub failing-after : (p q : Pattern) (events : List Event) (m n : ℕ) (found : Option ℕ)
    → IsFirstFrom q events 0 m → n ≡ m + 1 → MatchOption found ((k : ℕ) → n ≤ k → ¬ IsAt p events k) (IsFirstFrom p events n) → IsFailingStep (NeverAfter p q) events found
failing-after p q events m n None from is search = λ j k below at_q at_p. elim (cases_order j m) [
  | inl here ↦ search k (omega arith) at_p
  | inr (inl less) ↦ absurd (from.none_before j less (omega arith) at_q)
  | inr (inr more) ↦ search k (omega arith) at_p
]
failing-after p q events m n (Some k) from is search = after-fails p q events m k from (subst (λ i. IsFirstFrom p events i k) is search)

-- the same of a condition that is known
pub failing-by : (rule same : Rule) (events : List Event) (found : Option ℕ) → rule ≡ same → IsFailingStep same events found → IsFailingStep rule events found
failing-by rule same events found is fails = subst (λ r. IsFailingStep r events found) (sym is) fails

pub failing-each : (rule : Rule) (p : Pattern) (events : List Event) (found : Option ℕ) → rule ≡ Each p
    → MatchOption found (RepliesFit p events) (IsFirstUnfit p events) → IsFailingStep rule events found
failing-each rule p events None same search = subst (λ r. IsFailingStep r events None) (sym same) search
failing-each rule p events (Some k) same search =
    subst (λ r. IsFailingStep r events (Some k)) (sym same) (record { within = search.within; before = search.before; here = search.here })

pub failing-before : (rule : Rule) (p q : Pattern) (events : List Event) (found : Option ℕ) → rule ≡ Before p q
    → MatchOption found ((k : ℕ) → 0 ≤ k → ¬ IsAt q events k) (IsFirstFrom q events 0) → IsFailingStep rule events found
failing-before rule p q events None same search = subst (λ r. IsFailingStep r events None) (sym same) (λ k. search k (omega arith))
failing-before rule p q events (Some k) same search = subst (λ r. IsFailingStep r events (Some k)) (sym same) search
