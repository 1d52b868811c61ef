-- A vacuous condition says nothing of a record.
use Rattle.std.proofs.Common.{◌≡◌, ℕ, ◌+◌, ◌<◌, ◌≤◌, List, length, get_or, subst, below_more, inl, inr, arith}
use Rattle.std.specs.Prelude.{Option, Some, slice_get}
use Rattle.std.proofs.lemmas.Option.{slice_get_within}
use Rattle.board_core.specs.History.{Event}
use Rattle.condition_script.specs.declared.patterns.Pattern.{Pattern}
use Rattle.condition_script.specs.declared.rules.Ending.{Ending}
use Rattle.condition_script.specs.declared.rules.Rule.{Rule}
use Rattle.condition_script.specs.declared.rules.Rule.TheVariants.{Never, NeverAfter, OfSome, Each, End, Before, CanEnd}
use Rattle.conditions.specs.Patterns.{FitsStep}
use Rattle.conditions.specs.Rules.{IsAt}
use Rattle.conditions.specs.Vacuity.{HasFitting, IsVacuous, SaysNothing}
use Rattle.conditions.proofs.Firsts.{same-event}

none-matches : (p : Pattern) (events : List Event) → ¬ HasFitting p events → (k : ℕ) → ¬ IsAt p events k
none-matches p events none k at = none (k, at.0, at.1, at.2.0)

pub says-nothing : (rule : Rule) (records : List (List Event)) → IsVacuous rule records → (n : ℕ) (events : List Event) (end : Option Ending) → slice_get records n ≡ Some events → SaysNothing rule events end
says-nothing (Never p) records (inl none) n events end is = λ k at. none-matches p events (none.1 n events is) k at
says-nothing (Never p) records (inr none) n events end is = absurd none.0
says-nothing (NeverAfter p q) records (inl none) n events end is = λ j k below before at. none-matches p events (none.1 n events is) k at
says-nothing (NeverAfter p q) records (inr none) n events end is = λ j k below before at. none.1 n events is (j, before)
says-nothing (OfSome p) records (inl none) n events end is = λ holds. none-matches p events (none.1 n events is) holds.0 holds.1
says-nothing (OfSome p) records (inr none) n events end is = absurd none.0
says-nothing (Each p) records (inl none) n events end is = λ k e at fits. absurd (none.1 n events is (k, e, at, fits))
says-nothing (Each p) records (inr none) n events end is = absurd none.0
says-nothing (End ends) records none n events end is = tt
says-nothing (CanEnd ends) records none n events end is = tt
says-nothing (Before p q) records (inl none) n events end is = λ j k first second. absurd (none-matches p events (none.1 n events is) j first.here)
says-nothing (Before p q) records (inr none) n events end is = λ j k first second. absurd (none-matches q events (none.1 n events is) k second.here)

-- ---- the steps of a record, one by one

abbrev pub NoneBefore : Pattern → List Event → ℕ → Type 0
NoneBefore p events n = (k : ℕ) → k < n → (e : Event) → slice_get events k ≡ Some e → ¬ FitsStep p e

pub none-keep : (p : Pattern) (events : List Event) (n : ℕ) (d : Event) → d ≡ get_or events n d → ¬ FitsStep p d → NoneBefore p events n → NoneBefore p events (n + 1)
none-keep p events n d is none before =
    let P : ℕ → Type 0 = λ k. (e : Event) → slice_get events k ≡ Some e → ¬ FitsStep p e in
    let Q : Event → Type 0 = λ x. FitsStep p x in
    below_more P n before (λ e at fits. none (subst Q (same-event events n e d at is) fits))

pub none-whole : (p : Pattern) (events : List Event) (n : ℕ) → length events ≤ n → NoneBefore p events n → ¬ HasFitting p events
none-whole p events n long before has =
    let within : has.0 < length events = slice_get_within events has.0 has.1 has.2 in
    before has.0 (omega arith) has.1 has.2 has.3
