-- At which step a record fails a condition (profile).
use Rattle.std.specs.Prelude.{◌≡◌, ℕ, suc, ◌<◌, List, length, take, Option, Some, None, MatchOption}
use Rattle.board_core.specs.History.{Event}
use Rattle.conditions.specs.Rule.{Rule}
use Rattle.conditions.specs.Rule.TheVariants.{Never, NeverAfter, OfSome, Each, End, Before, CanEnd}
use Rattle.conditions.specs.Rules.{Holds, IsAt, IsFirst}

-- A record fails a condition at step k, counted from 0: the steps before it meet the condition, and with it they don't.
pub record FailsAt (rule : Rule) (events : List Event) (k : ℕ) : Type 0 where
  pub within : k < length events
  pub before : Holds rule (take k events) None
  pub here : ¬ Holds rule (take (suc k) events) None

-- the last step, if there is one
abbrev pub IsLast : List Event → Option ℕ → Type 0
IsLast events None = length events ≡ 0
IsLast events (Some k) = suc k ≡ length events

-- The step that a report names for a record that fails a condition. For `never` and `each` it is the step at which the
-- record fails the condition, and none if the record meets it. For `before` it is the first step that the second
-- pattern matches, which comes too early; for `end` the last step. No step of a record fails `some` or `can end`.
abbrev pub IsFailingStep : Rule → List Event → Option ℕ → Type 0
IsFailingStep (Never p) events found = MatchOption found (Holds (Never p) events None) (FailsAt (Never p) events)
IsFailingStep (NeverAfter p q) events found =
    MatchOption found (Holds (NeverAfter p q) events None) (FailsAt (NeverAfter p q) events)
IsFailingStep (OfSome p) events found = found ≡ None
IsFailingStep (Each p) events found = MatchOption found (Holds (Each p) events None) (FailsAt (Each p) events)
IsFailingStep (End ends) events found = IsLast events found
IsFailingStep (Before p q) events found = MatchOption found ((k : ℕ) → ¬ IsAt q events k) (IsFirst q events)
IsFailingStep (CanEnd ends) events found = found ≡ None
