-- When a record meets a condition (profile).
use Rattle.std.specs.Prelude.{◌≡◌, ℕ, suc, ◌<◌, ◌≤◌, List, length, slice_get, take, Option, Some}
use Rattle.board_core.specs.History.{Event}
use Rattle.condition_script.specs.declared.patterns.Pattern.{Pattern}
use Rattle.condition_script.specs.declared.rules.Ending.{Ending}
use Rattle.condition_script.specs.declared.rules.Rule.{Rule}
use Rattle.condition_script.specs.declared.rules.Rule.TheVariants.{Never, NeverAfter, OfSome, Each, End, Before, CanEnd}
use Rattle.conditions.specs.Patterns.{FitsReply, FitsStep, Matches}

-- the pattern matches step k of a record, from 0, the oldest first
abbrev pub IsAt : Pattern → List Event → ℕ → Type 0
IsAt p events k = (e : Event) × (slice_get events k ≡ Some e) × Matches p e

-- k is the first step from a place on that the pattern matches
pub record IsFirstFrom (p : Pattern) (events : List Event) (from k : ℕ) : Type 0 where
  pub behind : from ≤ k
  pub here : IsAt p events k
  pub none_before : (j : ℕ) → j < k → from ≤ j → ¬ IsAt p events j

-- k is the first step of all that the pattern matches
abbrev pub IsFirst : Pattern → List Event → ℕ → Type 0
IsFirst p events k = IsFirstFrom p events 0 k

-- each step whose actor and operation fit a pattern has a reply that fits
abbrev pub RepliesFit : Pattern → List Event → Type 0
RepliesFit p events = (k : ℕ) (e : Event) → slice_get events k ≡ Some e → FitsStep p e → FitsReply p e

-- the first step whose reply doesn't fit: the replies before it fit, and with its own they don't
pub record IsFirstUnfit (p : Pattern) (events : List Event) (k : ℕ) : Type 0 where
  pub within : k < length events
  pub before : RepliesFit p (take k events)
  pub here : ¬ RepliesFit p (take (suc k) events)

-- an end is one of these
abbrev pub IsNamedIn : List Ending → Option Ending → Type 0
IsNamedIn ends end = (e : Ending) × (end ≡ Some e) × ((k : ℕ) × (slice_get ends k ≡ Some e))

-- a condition names the end
abbrev pub Names : Rule → Option Ending → Type 0
Names (Never p) end = ⊥
Names (NeverAfter p q) end = ⊥
Names (OfSome p) end = ⊥
Names (Each p) end = ⊥
Names (End ends) end = IsNamedIn ends.items end
Names (Before p q) end = ⊥
Names (CanEnd ends) end = IsNamedIn ends.items end

-- A record meets a condition. Only the record of a program has an end. No record alone meets `can end`.
abbrev pub Holds : Rule → List Event → Option Ending → Type 0
Holds (Never p) events end = (k : ℕ) → ¬ IsAt p events k
Holds (NeverAfter p q) events end = (j k : ℕ) → j < k → IsAt q events j → ¬ IsAt p events k
Holds (OfSome p) events end = (k : ℕ) × IsAt p events k
Holds (Each p) events end = RepliesFit p events
Holds (End ends) events end = IsNamedIn ends.items end
Holds (Before p q) events end = (j k : ℕ) → IsFirst p events j → IsFirst q events k → j < k
Holds (CanEnd ends) events end = ⊥
