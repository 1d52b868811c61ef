-- What the places of a history say of their accesses, beside the replies (Privileged 4.2.1, 4.3.2; Zifencei).
use Rattle.std.specs.Prelude.{◌≡◌, ◌↔◌, ℕ, true, false, List, [], ◌∷◌, Option, Some, None}
use Rattle.board_terms.specs.declared.op.Actor.{Actor}
use Rattle.board_terms.specs.declared.op.Actor.TheVariants.{Hart, Clock}
use Rattle.board_core.specs.History.{Event, Reach, access_of}
use Rattle.board_core.specs.Opening.{Opening}
use Rattle.any_tlb.specs.Firm.{IsFirmReach, IsLenientReach}
use Rattle.any_tlb.specs.Stale.{IsMissed, IsStale}
use Rattle.any_tlb.specs.Steady.{IsSteadyReach}
use Rattle.access_marks.specs.declared.marks.Marks.{Marks}

-- no mark
abbrev pub unmarked : Marks
unmarked = record { stale = false; missed = false; unsteady = false; unfirm = false; unlenient = false }

-- The marks of an access by hart h, which the event is: whether it is stale, whether a fence call missed it, and whether it
-- isn't steady.
pub record IsMarkedAs (o : Opening) (past : List Event) (h : ℕ) (event : Event) (reach : Reach) (marks : Marks) : Type 0 where
  pub stale : (marks.stale ≡ true) ↔ IsStale o past h event reach
  pub missed : (marks.missed ≡ true) ↔ IsMissed o past h event reach
  pub steady : (marks.unsteady ≡ false) ↔ IsSteadyReach o past h reach

-- The marks of an event after a history. An event that is no access of a hart has none.
abbrev pub IsMarkedStep : Opening → List Event → Event → Actor → Option Reach → Marks → Type 0
IsMarkedStep o past event (Hart h) (Some reach) marks = IsMarkedAs o past h event reach marks
IsMarkedStep o past event (Hart h) None marks = marks ≡ unmarked
IsMarkedStep o past event Clock reach marks = marks ≡ unmarked

-- The marks of a history's events, newest first: each event has those of its own place.
abbrev pub AreMarked : Opening → List Event → List Marks → Type 0
AreMarked o [] [] = Unit {0}
AreMarked o [] (m ∷ marks) = ⊥
AreMarked o (event ∷ past) [] = ⊥
AreMarked o (event ∷ past) (m ∷ marks) =
    IsMarkedStep o past event event.actor (access_of event.op) m × AreMarked o past marks

-- ---- walks

-- What the marks of an access by hart h say of walks: whether it isn't firm, and whether it isn't lenient.
pub record IsWalkMarkedAs (o : Opening) (past : List Event) (h : ℕ) (reach : Reach) (marks : Marks) : Type 0 where
  pub firm : (marks.unfirm ≡ false) ↔ IsFirmReach o past h reach
  pub lenient : (marks.unlenient ≡ false) ↔ IsLenientReach o past h reach

-- What the marks of a step say of walks: of an access of a hart.
abbrev pub IsWalkMarkedStep : Opening → List Event → Actor → Option Reach → Marks → Type 0
IsWalkMarkedStep o past (Hart h) (Some reach) marks = IsWalkMarkedAs o past h reach marks
IsWalkMarkedStep o past (Hart h) None marks = Unit {0}
IsWalkMarkedStep o past Clock reach marks = Unit {0}

-- What the marks of a history's events say of walks, newest first.
abbrev pub AreWalksMarked : Opening → List Event → List Marks → Type 0
AreWalksMarked o [] marks = Unit {0}
AreWalksMarked o (event ∷ past) [] = ⊥
AreWalksMarked o (event ∷ past) (m ∷ marks) =
    IsWalkMarkedStep o past event.actor (access_of event.op) m × AreWalksMarked o past marks
