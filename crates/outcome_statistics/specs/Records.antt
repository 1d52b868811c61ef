-- What conditions say of many records, and tallies of it (profile).
use Rattle.std.specs.Prelude.{◌≡◌, ◌≢◌, ◌⊎◌, ℕ, suc, ◌-◌, ◌^◌, min, Bool, true, false, List, [], ◌∷◌, Option, Some, None}
use Rattle.access_marks.specs.declared.marks.Marks.{Marks}
use Rattle.board_core.specs.History.{Event}
use Rattle.conditions.specs.Ending.{Ending}
use Rattle.conditions.specs.Ending.TheVariants as endings
use Rattle.conditions.specs.Rule.{Rule}
use Rattle.conditions.specs.Rule.TheVariants.{Never, NeverAfter, OfSome, Each, End, Before, CanEnd}
use Rattle.conditions.specs.Rules.{Holds}
use Rattle.marked_conditions.specs.Marked.{HoldsWith, asks_of_marks}
use Rattle.outcome_statistics.specs.declared.tally.Tally.{Tally}

-- The record of an order: its number, its accepted steps, the oldest first, their marks, if a condition asks of them, and, for a
-- program, how it ended.
pub record Tried : Type 0 where
  pub number : ℕ
  pub events : List Event
  pub marks : List Marks
  pub end : Option Ending

-- The condition is about ends, and the limit cut the record off, so its end is open: the condition says nothing of it.
abbrev pub IsSpared : Rule → Option Ending → Type 0
IsSpared (End named) end = end ≡ Some endings.HistoryFull
IsSpared (Never p) end = ⊥
IsSpared (NeverAfter p q) end = ⊥
IsSpared (OfSome p) end = ⊥
IsSpared (Each p) end = ⊥
IsSpared (Before p q) end = ⊥
IsSpared (CanEnd ends) end = ⊥

-- A record meets a condition: with its marks, if the condition asks of them.
abbrev pub HoldsOf : (asks : Bool) → Rule → Tried → Type 0
HoldsOf false rule tried = Holds rule tried.events tried.end
HoldsOf true rule tried = HoldsWith rule tried.events tried.marks tried.end

-- A record meets a condition, or the condition says nothing of it.
abbrev pub Meets : Rule → Tried → Type 0
Meets rule tried = IsSpared rule tried.end ⊎ HoldsOf (asks_of_marks rule) rule tried

-- The record didn't end stuck: the test of a program without conditions.
abbrev pub IsWell : Tried → Type 0
IsWell tried = tried.end ≢ Some endings.Stuck

-- each of the list has the property
abbrev pub EachIs : {X : Type 0} → (X → Type 0) → List X → Type 0
EachIs P [] = Unit {0}
EachIs P (x ∷ xs) = P x × EachIs P xs

-- One of the list has the property.
abbrev pub SomeIs : {X : Type 0} → (X → Type 0) → List X → Type 0
SomeIs P [] = ⊥
SomeIs P (x ∷ xs) = P x ⊎ SomeIs P xs

-- A record passes: it meets the condition, or without one it didn't end stuck.
abbrev pub IsSo : Option Rule → Tried → Type 0
IsSo None tried = IsWell tried
IsSo (Some rule) tried = Meets rule tried

-- A condition holds of many records: for `some` one of them meets it, for any other condition each does.
abbrev pub AllMeet : Rule → List Tried → Type 0
AllMeet (OfSome p) tried = SomeIs (IsSo (Some (OfSome p))) tried
AllMeet (Never p) tried = EachIs (IsSo (Some (Never p))) tried
AllMeet (NeverAfter p q) tried = EachIs (IsSo (Some (NeverAfter p q))) tried
AllMeet (Each p) tried = EachIs (IsSo (Some (Each p))) tried
AllMeet (End named) tried = EachIs (IsSo (Some (End named))) tried
AllMeet (Before p q) tried = EachIs (IsSo (Some (Before p q))) tried
AllMeet (CanEnd ends) tried = EachIs (IsSo (Some (CanEnd ends))) tried

-- ---- counting

-- n of the list are `such`, and each of the others is `other`.
unfoldable pub IsCount : {X : Type 0} → (such other : X → Type 0) → List X → ℕ → Type 0
IsCount such other [] n = n ≡ 0
IsCount such other (x ∷ xs) n =
    (such x × ((m : ℕ) × (n ≡ suc m) × IsCount such other xs m)) ⊎ (other x × IsCount such other xs n)

-- The same, counted up to 2^64-1.
abbrev pub IsCounted : {X : Type 0} → (such other : X → Type 0) → List X → ℕ → Type 0
IsCounted such other xs n = (m : ℕ) × IsCount such other xs m × (n ≡ min m (2 ^ 64 - 1))

-- `first` is the number of the oldest record without the property, if there is one; the last record stands in front.
unfoldable pub IsFirstOther : (Tried → Type 0) → List Tried → Option ℕ → Type 0
IsFirstOther P [] first = first ≡ None
IsFirstOther P (x ∷ xs) None = P x × IsFirstOther P xs None
IsFirstOther P (x ∷ xs) (Some n) = IsFirstOther P xs (Some n) ⊎ (IsFirstOther P xs None × (¬ P x) × (n ≡ x.number))

-- The tally is right for these records, the last in front: how many have the property, how many don't, and the number of the
-- first that doesn't.
pub record Tells (P : Tried → Type 0) (tried : List Tried) (t : Tally) : Type 0 where
  pub holding : IsCounted P (λ x. ¬ P x) tried t.holding
  pub failing : IsCounted (λ x. ¬ P x) P tried t.failing
  pub first : IsFirstOther P tried t.first
