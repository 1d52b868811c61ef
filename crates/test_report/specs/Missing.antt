-- The steps that a condition needs, by its patterns (profile).
use Rattle.std.specs.Prelude.{◌≡◌, Bool, true, false, List}
use Rattle.board_core.specs.History.{Event}
use Rattle.conditions.specs.Rule.{Rule}
use Rattle.conditions.specs.Vacuity.{MeetsFirst, MeetsSecond, NeedsFirst, NeedsSecond}
use Rattle.conditions.specs.declared.vacuity.NeedsMet.{NeedsMet}

-- A condition needs a step for its first pattern, or for its second.
abbrev pub Needs : Rule → (is_second : Bool) → Type 0
Needs rule false = NeedsFirst rule
Needs rule true = NeedsSecond rule

-- A record has the step that this pattern needs.
abbrev pub MeetsPattern : Rule → (is_second : Bool) → List Event → Type 0
MeetsPattern rule false events = MeetsFirst rule events
MeetsPattern rule true events = MeetsSecond rule events

-- whether the step of the first pattern was met, or of the second
abbrev pub was_met : NeedsMet → (is_second : Bool) → Bool
was_met met false = met.first
was_met met true = met.second

-- A condition needs a step for this pattern, and it wasn't met.
abbrev pub IsLacking : Rule → NeedsMet → (is_second : Bool) → Type 0
IsLacking rule met is_second = Needs rule is_second × (was_met met is_second ≡ false)
