-- Deadlines that aren't due yet, as a list, the soonest first.
use Rattle.std.specs.Prelude.{◌≡◌, ℕ, ◌-◌, ◌<◌, ◌≤◌, List, [], ◌∷◌, length, ◌==◌, if◌then◌else◌, slice_index_or}
use Rattle.std.specs.List.{All, insert}
use Rattle.interrupts.specs.declared.ahead.Member.{Member}

-- a deadline and its hart
abbrev pub member_of : ℕ → ℕ → Member
member_of deadline hart = record { deadline = deadline; hart = hart }

-- the list without the first deadline of a hart
abbrev pub without_hart : ℕ → List Member → List Member
without_hart hart [] = []
without_hart hart (member ∷ members) = if member.hart == hart then members else member ∷ without_hart hart members

-- the list with one more member, at some place
pub record IsInserted (member : Member) (before now : List Member) : Type 0 where
  pub place : ℕ
  pub within : place ≤ length before
  pub is : now ≡ insert before place member

-- the first deadline of the list before is this hart's, and is due; the other deadlines are left
pub record IsFirst (time hart : ℕ) (before now : List Member) : Type 0 where
  pub deadline : ℕ
  pub is_due : deadline ≤ time
  pub is : before ≡ member_of deadline hart ∷ now

-- no deadline of the list is due
abbrev pub IsLater : ℕ → List Member → Type 0
IsLater time members = All (λ (member : Member). time < member.deadline) members

-- the list is unchanged, and no deadline in it is due
pub record AreLater (time : ℕ) (before now : List Member) : Type 0 where
  pub same : now ≡ before
  pub later : IsLater time before

-- the place for a deadline: none between the start and the place is later than it, and from the place on each is
pub record IsPlaceOf (deadline start : ℕ) (members : List Member) (place : ℕ) : Type 0 where
  pub from : start ≤ place
  pub within : place ≤ length members
  pub before : (m : Member) → start < place → (slice_index_or members (place - 1) m).deadline ≤ deadline
  pub later : (k : ℕ) (m : Member) → place ≤ k → k < length members → deadline < (slice_index_or members k m).deadline
