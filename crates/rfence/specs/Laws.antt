-- Laws of fences, for all sequences of possible turns (`IsRight`).
use Rattle.std.specs.Prelude.{◌≡◌, ℕ, ◌+◌, ◌*◌, ◌<◌, ◌≤◌, ◌==◌, ◌&&◌, not, Bool, true, false, List, [], ◌∷◌, ◌++◌, length, map, sum_by, if◌then◌else◌, Some}
use Rattle.std.specs.List.{All, count_by, list_any, range_with_len}
use Rattle.hart_mask.specs.Ids.{has, ids_where}
use Rattle.fence_queue.specs.Queues.{IsQueue}
use Rattle.rfence.specs.declared.opened.FenceCall.{FenceCall}
use Rattle.rfence.specs.Opening.{Asked, IsOf, Opening, called_at, kept, place_after, waited_at}
use Rattle.rfence.specs.Turns.{Turn, Ask, Own, Poll, Quiet, is_asked}
use Rattle.rfence.specs.Waiting.{one_more, waiting}
use Rattle.rfence.specs.Applied.{Applied, Effect, Nothing, Drops, Empties, applied, effect}
use Rattle.rfence.specs.Calls.{is_at, is_outstanding, open_call, outstanding}
use Rattle.rfence.specs.Right.{IsRight}
use Rattle.rfence.specs.State.{IsLater, IsTaken, StandsFor, State, total_applied, total_asked}

-- The requests that wait at hart t come from distinct other harts, are fewer than the harts, and each belongs to its
-- caller's open call.
pub record OfOpenCalls {F : Type 0} (o : Opening F) (n : ℕ) (turns : List (Turn F)) (t : ℕ) : Type 0 where
  pub callers : IsQueue n t (map kept (waiting o turns t))
  pub few : length (waiting o turns t) < n
  pub opened : All (λ (asked : Asked F). IsOf t asked (open_call o turns asked.from)) (waiting o turns t)

-- The fences that wait at a hart come from distinct other harts, each inside the call by which it asked.
abbrev pub WaitsAreOfOpenCalls : Type 0 → Type 0
WaitsAreOfOpenCalls F =
    (o : Opening F) (n : ℕ) (turns : List (Turn F)) (t : ℕ) → IsRight o n turns → t < n → OfOpenCalls o n turns t

-- the number of times a place is in a list
abbrev pub times : ℕ → List ℕ → ℕ
times place [] = 0
times place (other ∷ others) = one_more (other == place) (times place others)

module _ {F : Type 0} where
  -- the places of the fences applied at hart t, and of those that wait there
  abbrev pub applied_places : Opening F → List (Turn F) → ℕ → List ℕ
  applied_places o turns t = map (λ (fence : Applied F). fence.place) (applied o turns t)

  abbrev pub waiting_places : Opening F → List (Turn F) → ℕ → List ℕ
  waiting_places o turns t = map (λ (asked : Asked F). asked.place) (waiting o turns t)

  -- how often the fence of this place was applied at hart t since the opening, plus how often it waits there
  abbrev pub times_met : Opening F → (place : ℕ) → List (Turn F) → (t : ℕ) → ℕ
  times_met o place turns t = times place (applied_places o turns t) + times place (waiting_places o turns t)

  -- whether the fence of a call of the opening was applied at hart t before it: the call asked the hart, and its fence
  -- doesn't wait there
  abbrev pub was_applied : Opening F → FenceCall F → (t : ℕ) → Bool
  was_applied o call t = has call.asked t && not (list_any (is_at (Some call)) (waited_at o t))

-- A fence asked of hart t was applied there once, or waits there once. Any other turn has no fence that was applied or
-- waits there. A fence's place is that of its turn.
abbrev pub AppliedOnce : Type 0 → Type 0
AppliedOnce F =
    (o : Opening F) (n : ℕ) (newer : List (Turn F)) (turn : Turn F) (older : List (Turn F)) (t : ℕ)
    → IsRight o n (newer ++ turn ∷ older)
    → times_met o (place_after o older) (newer ++ turn ∷ older) t ≡ (if is_asked turn t then 1 else 0)

-- The same for the fence of a call that was open at the opening. If it didn't wait at an asked hart then, it was
-- applied there before.
abbrev pub OpenedOnce : Type 0 → Type 0
OpenedOnce F =
    (o : Opening F) (n : ℕ) (turns : List (Turn F)) (c t : ℕ) (call : FenceCall F)
    → IsRight o n turns → called_at o c ≡ Some call
    → (if was_applied o call t then 1 else 0) + times_met o call.place turns t ≡ (if has call.asked t then 1 else 0)

-- an effect that drops everything that the fence covers: the fence itself, or a clear
abbrev pub Strikes : {F : Type 0} → F → Effect F → Type 0
Strikes flush Nothing = ⊥
Strikes flush (Drops other) = other ≡ flush
Strikes flush Empties = Unit

-- At this place or later, the fence was applied to the caches of hart t, or they were emptied.
pub record WasStruck {F : Type 0} (o : Opening F) (turns : List (Turn F)) (t place : ℕ) (flush : F) : Type 0 where
  pub newer : List (Turn F)
  pub turn : Turn F
  pub older : List (Turn F)
  pub made : turns ≡ newer ++ turn ∷ older
  pub since : place ≤ place_after o older
  pub strikes : Strikes flush (effect o older turn t)

-- If a hart asked a fence and polled later, then at each hart that it asked the fence was applied, or the caches were
-- emptied, at the ask or later.
abbrev pub SuccessStrikes : Type 0 → Type 0
SuccessStrikes F =
    (o : Opening F) (n : ℕ) (newer between older : List (Turn F)) (x : ℕ) (asked : ℕ → Bool) (flush : F) (t : ℕ)
    → IsRight o n (newer ++ Poll x ∷ (between ++ Ask x asked flush ∷ older)) → asked t ≡ true
    → WasStruck o (newer ++ Poll x ∷ (between ++ Ask x asked flush ∷ older)) t (place_after o older) flush

-- On a board of at most 128 harts, the outstanding harts of a call are the set that is stored for it, and each count is
-- at most 128 for each turn.
pub record IsSmall {F : Type 0} (o : Opening F) (n : ℕ) (turns : List (Turn F)) : Type 0 where
  pub calls : (c : ℕ) → ids_where (is_outstanding o turns c) ≡ outstanding o n turns c
  pub asked : total_asked o turns ≤ 128 * place_after o turns
  pub applied : total_applied o n turns ≤ 128 * place_after o turns

-- The stored state is bounded: a call waits only for harts that exist, and each count is at most 128 for each turn.
abbrev pub BoardsAreSmall : Type 0 → Type 0
BoardsAreSmall F = (o : Opening F) (n : ℕ) (turns : List (Turn F)) → IsRight o n turns → IsSmall o n turns

-- The number of fences that wait at n harts together.
abbrev pub total_waiting : {F : Type 0} → Opening F → ℕ → List (Turn F) → ℕ
total_waiting o n turns = sum_by (λ t. length (waiting o turns t)) (range_with_len 0 n)

-- The fences asked are as many as those applied plus those that wait.
abbrev pub CountsAgree : Type 0 → Type 0
CountsAgree F =
    (o : Opening F) (n : ℕ) (turns : List (Turn F))
    → IsRight o n turns → total_asked o turns ≡ total_applied o n turns + total_waiting o n turns

module _ {F : Type 0} where
  -- whether the turn is a local fence
  abbrev pub is_own : Turn F → Bool
  is_own (Own x flush) = true
  is_own turn = false

  -- Whether the turn of this place is a local fence. No place before the opening is.
  abbrev pub is_local : Opening F → List (Turn F) → (place : ℕ) → Bool
  is_local o [] place = false
  is_local o (turn ∷ turns) place = if place == place_after o turns then is_own turn else is_local o turns place

  -- whether an applied fence is a call's
  abbrev pub is_remote : Opening F → List (Turn F) → Applied F → Bool
  is_remote o turns fence = not (is_local o turns fence.place)

  -- The number of fences of calls that were applied since the opening, at n harts together.
  abbrev pub total_remote : Opening F → ℕ → List (Turn F) → ℕ
  total_remote o n turns = sum_by (λ t. count_by (is_remote o turns) (applied o turns t)) (range_with_len 0 n)

-- The count of applied fences is the opening's, plus one for each fence of a call in a hart's list of applied fences.
-- Local fences are in that list too, and don't count.
abbrev pub AppliedIsCounted : Type 0 → Type 0
AppliedIsCounted F =
    (o : Opening F) (n : ℕ) (turns : List (Turn F))
    → IsRight o n turns → total_applied o n turns ≡ o.applied + total_remote o n turns

-- A local fence, and a turn that concerns no fence, don't change the stored state.
abbrev pub OthersChangeNothing : Type 0 → Type 0
OthersChangeNothing F =
    (fences : State F) → ((x : ℕ) (flush : F) → IsTaken fences (Own x flush) fences) × IsTaken fences Quiet fences

-- The next turn has a later place than each open call, which an ask requires.
abbrev pub TurnsComeLater : Type 0 → Type 0
TurnsComeLater F =
    (o : Opening F) (n : ℕ) (turns : List (Turn F)) (fences : State F)
    → StandsFor o n turns fences → IsRight o n turns → IsLater (place_after o turns) fences
