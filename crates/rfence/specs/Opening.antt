-- The opening of a board's fences: the waiting fences and the open calls before the first event of the kept history
-- (profile).
use Rattle.std.specs.Prelude.{◌≡◌, ℕ, ◌+◌, ◌*◌, ◌<◌, ◌≤◌, true, List, [], length, map, replicate, slice_index_or, sum_by, Option, Some, None}
use Rattle.std.specs.List.{All, range_with_len}
use Rattle.hart_mask.specs.Ids.{has}
use Rattle.fence_queue.specs.declared.request.Request.{Request}
use Rattle.fence_queue.specs.Queues.{IsQueue}
use Rattle.rfence.specs.declared.opened.FenceCall.{FenceCall}
use Rattle.rfence.specs.Turns.{Turn}

-- A fence asked of another hart: the place of the turn, the caller, and what it drops.
pub record Asked (F : Type 0) : Type 0 where
  pub place : ℕ
  pub from : ℕ
  pub flush : F

-- The number of turns before, the fences that wait at each hart, each hart's open call, and the numbers of fences asked
-- and applied before.
pub record Opening (F : Type 0) : Type 0 where
  pub first : ℕ
  pub waiting : List (List (Asked F))
  pub calls : List (Option (FenceCall F))
  pub asked : ℕ
  pub applied : ℕ

module _ {F : Type 0} where
  abbrev pub waited_at : Opening F → ℕ → List (Asked F)
  waited_at o t = slice_index_or o.waiting t []

  -- The open call of hart c before the first turn.
  abbrev pub called_at : Opening F → ℕ → Option (FenceCall F)
  called_at o c = slice_index_or o.calls c None

  -- The place of the turn after these: the number of all turns before it.
  abbrev pub place_after : Opening F → List (Turn F) → ℕ
  place_after o turns = o.first + length turns

  -- A board's first opening: no turn was made, no fence waits, and no hart is in a call.
  abbrev pub nothing_before : ℕ → Opening F
  nothing_before n = record { first = 0; waiting = replicate n []; calls = replicate n None; asked = 0; applied = 0 }

  -- a fence as a queue stores it, without its place
  abbrev pub kept : Asked F → Request F
  kept asked = record { from = asked.from; flush = asked.flush }

  -- This call asked the fence of hart t.
  abbrev pub IsOf : (t : ℕ) → Asked F → Option (FenceCall F) → Type 0
  IsOf t asked None = ⊥
  IsOf t asked (Some call) = (call.place ≡ asked.place) × (call.flush ≡ asked.flush) × (has call.asked t ≡ true)

  -- A consistent opening of a board of n harts. The fences that wait at a hart come from distinct other harts, each
  -- from its caller's open call. Each call has a place of its own, before the first turn's. The counts agree with the
  -- waiting fences.
  pub record IsOpening (o : Opening F) (n : ℕ) : Type 0 where
    pub limit : n ≤ 128
    pub opens : (t : ℕ) → All (λ (asked : Asked F). IsOf t asked (called_at o asked.from)) (waited_at o t)
    pub queue : (t : ℕ) → IsQueue n t (map kept (waited_at o t))
    pub within : (t : ℕ) → n ≤ t → waited_at o t ≡ []
    pub callers : (c : ℕ) → n ≤ c → called_at o c ≡ None
    pub before : (c : ℕ) (call : FenceCall F) → called_at o c ≡ Some call → call.place < o.first
    pub apart : (c d : ℕ) (call other : FenceCall F) → called_at o c ≡ Some call → called_at o d ≡ Some other
        → call.place ≡ other.place → c ≡ d
    pub agree : o.asked ≡ o.applied + sum_by (λ t. length (waited_at o t)) (range_with_len 0 n)
    pub few : o.asked ≤ 128 * o.first
