-- Which steps that conditions need were met (profile).
use Rattle.std.specs.Prelude.{◌≡◌, ◌↔◌, Bool, true, false, List}
use Rattle.board_core.specs.History.{Event}
use Rattle.conditions.specs.Rule.{Rule}
use Rattle.conditions.specs.Rule.TheVariants.{Never, NeverAfter, OfSome, Each, End, Before, CanEnd}
use Rattle.conditions.specs.declared.vacuity.NeedsMet.{NeedsMet}
use Rattle.conditions.specs.Vacuity.{HasFitting, MeetsFirst, MeetsSecond}
use Rattle.marked_conditions.specs.Marked.{asks_of_marks}
use Rattle.marked_conditions.specs.Needs.{MeetsFirstWith, MeetsSecondWith}
use Rattle.outcome_statistics.specs.Records.{SomeIs, Tried}

-- A record has the step that a condition's first pattern needs: one of which its mark tells something, if the condition asks of
-- marks.
abbrev pub MeetsFirstOf : (asks : Bool) → Rule → Tried → Type 0
MeetsFirstOf false rule tried = MeetsFirst rule tried.events
MeetsFirstOf true rule tried = MeetsFirstWith rule tried.events tried.marks

-- The same of the second pattern.
abbrev pub MeetsSecondOf : (asks : Bool) → Rule → Tried → Type 0
MeetsSecondOf false rule tried = MeetsSecond rule tried.events
MeetsSecondOf true rule tried = MeetsSecondWith rule tried.events tried.marks

-- The record has the step that the first pattern needs, or the second one.
abbrev pub HasFirst : Rule → Tried → Type 0
HasFirst rule tried = MeetsFirstOf (asks_of_marks rule) rule tried

abbrev pub HasSecond : Rule → Tried → Type 0
HasSecond rule tried = MeetsSecondOf (asks_of_marks rule) rule tried

-- `met` says of each of a condition's two patterns whether some of these records has the step that it needs.
pub record AreNeedsMet (rule : Rule) (tried : List Tried) (met : NeedsMet) : Type 0 where
  pub first : (met.first ≡ true) ↔ SomeIs (HasFirst rule) tried
  pub second : (met.second ≡ true) ↔ SomeIs (HasSecond rule) tried

-- For each pattern of a condition the record has a step whose actor and operation fit, whatever its reply.
abbrev pub IsEachFitting : Rule → List Event → Type 0
IsEachFitting (Never p) events = HasFitting p events
IsEachFitting (NeverAfter p q) events = HasFitting p events × HasFitting q events
IsEachFitting (OfSome p) events = HasFitting p events
IsEachFitting (Each p) events = HasFitting p events
IsEachFitting (End ends) events = Unit {0}
IsEachFitting (Before p q) events = HasFitting p events × HasFitting q events
IsEachFitting (CanEnd ends) events = Unit {0}

-- For each pattern of a condition some of these records has the step that it needs.
abbrev pub EachIsMet : Rule → List Tried → Type 0
EachIsMet (Never p) tried = SomeIs (HasFirst (Never p)) tried
EachIsMet (NeverAfter p q) tried = SomeIs (HasFirst (NeverAfter p q)) tried
    × SomeIs (HasSecond (NeverAfter p q)) tried
EachIsMet (OfSome p) tried = SomeIs (HasFirst (OfSome p)) tried
EachIsMet (Each p) tried = SomeIs (HasFirst (Each p)) tried
EachIsMet (End ends) tried = Unit {0}
EachIsMet (Before p q) tried = SomeIs (HasFirst (Before p q)) tried
    × SomeIs (HasSecond (Before p q)) tried
EachIsMet (CanEnd ends) tried = Unit {0}
