-- How the ordered deadlines and the set of due harts relate to each hart's deadline.
use Rattle.std.specs.Prelude.{◌≡◌, ℕ, ◌<◌, ◌≤◌, Bool, true, false, nat_le, nat_lt, List, [], ◌∷◌, length, ◌==◌, if◌then◌else◌, slice_index_or, Option, Some, None}
use Rattle.std.specs.List.{All}
use Rattle.std.specs.Option.{option_to_list}
use Rattle.hart_mask.specs.Ids.{has, with_id}
use Rattle.interrupts.specs.declared.ahead.Member.{Member}
use Rattle.interrupts.specs.Timing.{is_due}

-- whether there is a deadline that isn't due yet
abbrev pub is_ahead : ℕ → Option ℕ → Bool
is_ahead time (Some deadline) = nat_lt time deadline
is_ahead time None = false

-- the deadlines of one hart in a list
abbrev pub deadlines_in : ℕ → List Member → List ℕ
deadlines_in h [] = []
deadlines_in h (member ∷ members) =
    if member.hart == h then member.deadline ∷ deadlines_in h members else deadlines_in h members

-- Each hart's deadline is in the list exactly once, or it is due and the hart is in the set. The list has no other
-- deadlines.
pub record IsListed (time : ℕ) (deadlines : List (Option ℕ)) (ahead : List Member) (set : List ℕ) : Type 0 where
  pub limit : length deadlines ≤ 128
  pub harts : All (λ (member : Member). member.hart < length deadlines) ahead
  pub listed : (h : ℕ) → h < length deadlines
      → deadlines_in h ahead ≡ (if has set h then [] else option_to_list (slice_index_or deadlines h None))
  pub due : (h : ℕ) → h < length deadlines → has set h ≡ true → is_due time (slice_index_or deadlines h None) ≡ true

-- the list without the due deadlines at its front
abbrev pub left_after : ℕ → List Member → List Member
left_after time [] = []
left_after time (member ∷ members) = if nat_le member.deadline time then left_after time members else member ∷ members

-- the set with the harts of the due deadlines at the list's front
abbrev pub due_after : ℕ → List ℕ → List Member → List ℕ
due_after time due [] = due
due_after time due (member ∷ members) =
    if nat_le member.deadline time then due_after time (with_id due member.hart) members else due
