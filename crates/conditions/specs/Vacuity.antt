-- When a condition is vacuous: no record has a step that it needs (profile).
use Rattle.std.specs.Prelude.{◌≡◌, ◌≢◌, ◌⊎◌, ℕ, List, [], slice_get, Option, Some}
use Rattle.board_core.specs.History.{Event}
use Rattle.script_lines.specs.declared.op_name.OpName.TheVariants.{Ecall}
use Rattle.condition_script.specs.declared.items.Item.TheVariants.{Word}
use Rattle.condition_script.specs.declared.names.Name.TheVariants.{Op}
use Rattle.condition_script.specs.declared.patterns.Pattern.{Pattern}
use Rattle.condition_script.specs.declared.rules.Ending.{Ending}
use Rattle.condition_script.specs.declared.rules.Rule.{Rule}
use Rattle.condition_script.specs.declared.rules.Rule.TheVariants.{Never, NeverAfter, OfSome, Each, End, Before, CanEnd}
use Rattle.conditions.specs.Patterns.{FitsStep}
use Rattle.conditions.specs.Rules.{Holds, IsAt}

-- A record has a step whose actor and operation fit a pattern, whatever its reply.
abbrev pub HasFitting : Pattern → List Event → Type 0
HasFitting p events = (k : ℕ) × (e : Event) × (slice_get events k ≡ Some e) × FitsStep p e

-- A record has a step that a pattern matches.
abbrev pub HasMatching : Pattern → List Event → Type 0
HasMatching q events = (k : ℕ) × IsAt q events k

-- the operation of a pattern is a call
abbrev pub IsOfCall : Pattern → Type 0
IsOfCall p = slice_get p.step.items 1 ≡ Some (Some (Word (Op Ecall)))

-- `each` and `before` need a step for their first pattern, `never` and `some` if the pattern has a reply. `never P` without a
-- reply forbids the step itself; and a `never` about a call may forbid an argument, so it needs no such call.
abbrev pub NeedsFirst : Rule → Type 0
NeedsFirst (Never p) = (p.reply.items ≢ []) × ¬ IsOfCall p
NeedsFirst (NeverAfter p q) = (p.reply.items ≢ []) × ¬ IsOfCall p
NeedsFirst (OfSome p) = p.reply.items ≢ []
NeedsFirst (Each p) = Unit {0}
NeedsFirst (Before p q) = Unit {0}
NeedsFirst (End ends) = ⊥
NeedsFirst (CanEnd ends) = ⊥

-- A condition needs a step for the pattern behind `after`, or behind the comma of `before`.
abbrev pub NeedsSecond : Rule → Type 0
NeedsSecond (Never p) = ⊥
NeedsSecond (NeverAfter p q) = Unit {0}
NeedsSecond (OfSome p) = ⊥
NeedsSecond (Each p) = ⊥
NeedsSecond (Before p q) = Unit {0}
NeedsSecond (End ends) = ⊥
NeedsSecond (CanEnd ends) = ⊥

-- A record has the step that the first pattern needs.
abbrev pub MeetsFirst : Rule → List Event → Type 0
MeetsFirst (Never p) events = HasFitting p events
MeetsFirst (NeverAfter p q) events = HasFitting p events
MeetsFirst (OfSome p) events = HasFitting p events
MeetsFirst (Each p) events = HasFitting p events
MeetsFirst (Before p q) events = HasFitting p events
MeetsFirst (End ends) events = ⊥
MeetsFirst (CanEnd ends) events = ⊥

-- A record has the step that the second pattern needs: behind `after` one with its reply, if it has a reply.
abbrev pub MeetsSecond : Rule → List Event → Type 0
MeetsSecond (Never p) events = ⊥
MeetsSecond (NeverAfter p q) events = HasMatching q events
MeetsSecond (OfSome p) events = ⊥
MeetsSecond (Each p) events = ⊥
MeetsSecond (Before p q) events = HasFitting q events
MeetsSecond (End ends) events = ⊥
MeetsSecond (CanEnd ends) events = ⊥

-- no record has the property
abbrev pub NoneOf : (List Event → Type 0) → List (List Event) → Type 0
NoneOf P records = (k : ℕ) (events : List Event) → slice_get records k ≡ Some events → ¬ P events

-- A condition is vacuous for records if it needs a step that none of them has.
abbrev pub IsVacuous : Rule → List (List Event) → Type 0
IsVacuous rule records =
    (NeedsFirst rule × NoneOf (MeetsFirst rule) records) ⊎ (NeedsSecond rule × NoneOf (MeetsSecond rule) records)

-- The condition says nothing of a record, whatever its steps answered: the record meets it, or, for `some`, doesn't
-- meet it. (`end` and `can end` need no step, and are never vacuous.)
abbrev pub SaysNothing : Rule → List Event → Option Ending → Type 0
SaysNothing (Never p) events end = Holds (Never p) events end
SaysNothing (NeverAfter p q) events end = Holds (NeverAfter p q) events end
SaysNothing (OfSome p) events end = ¬ Holds (OfSome p) events end
SaysNothing (Each p) events end = Holds (Each p) events end
SaysNothing (End ends) events end = Unit {0}
SaysNothing (CanEnd ends) events end = Unit {0}
SaysNothing (Before p q) events end = Holds (Before p q) events end
