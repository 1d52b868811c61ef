-- The number of serves that a fence call still needs, and how turns change it (profile; that a call is complete when
-- all harts have fenced: SBI 8).
use Rattle.std.specs.Prelude.{◌≡◌, ℕ, ◌-◌, ◌*◌, ◌≤◌, ◌<◌, Bool, true, false, List, [], ◌∷◌, ◌++◌, ◌==◌, ◌⊎◌, sum_by, suc, if◌then◌else◌, is_some}
use Rattle.std.specs.List.{list_any, range_with_len}
use Rattle.fence_queue.specs.Positions.{position_of}
use Rattle.rfence.specs.Opening.{Opening}
use Rattle.rfence.specs.Turns.{Turn, Poll, Reset, Serve, Stop, is_serve}
use Rattle.rfence.specs.Waiting.{one_more, waiting}
use Rattle.rfence.specs.Calls.{is_at, open_call}
use Rattle.rfence.specs.Right.{IsRight, IsRightTurn}
use Rattle.rfence.specs.State.{StandsFor, State}

module _ {F : Type 0} where
  -- The number of serves by hart t that the call of hart c still needs: the position, counted from 1, of the call's
  -- fence among those that wait at t; 0 if it doesn't wait there.
  abbrev pub need : Opening F → List (Turn F) → (c t : ℕ) → ℕ
  need o turns c t = position_of (is_at (open_call o turns c)) (waiting o turns t)

  -- the serves that it needs of n harts, all together
  abbrev pub total_need : Opening F → ℕ → List (Turn F) → (c : ℕ) → ℕ
  total_need o n turns c = sum_by (need o turns c) (range_with_len 0 n)

  -- the value `told` is the need, whatever opening and turns the fences stand for
  abbrev pub IsNeed : State F → (c t told : ℕ) → Type 0
  IsNeed fences c t told =
      (o : Opening F) (n : ℕ) (turns : List (Turn F)) → StandsFor o n turns fences → IsRight o n turns
      → told ≡ need o turns c t

  -- whether a turn ends hart c's call: the hart polls, or the board is reset
  abbrev pub ends : (c : ℕ) → Turn F → Bool
  ends c (Poll x) = x == c
  ends c Reset = true
  ends c turn = false

  -- whether hart t stops
  abbrev pub is_stop : (t : ℕ) → Turn F → Bool
  is_stop t (Stop x) = x == t
  is_stop t turn = false

  -- the number of hart t's serves among these turns
  abbrev pub serves_in : (t : ℕ) → List (Turn F) → ℕ
  serves_in t [] = 0
  serves_in t (turn ∷ turns) = one_more (is_serve turn t) (serves_in t turns)

-- Hart t can serve, and its serve lowers the need of hart c's call by exactly one.
pub record IsLowered {F : Type 0} (o : Opening F) (n : ℕ) (turns : List (Turn F)) (c t : ℕ) : Type 0 where
  pub can_serve : IsRightTurn o n turns (Serve t)
  pub lowered : suc (need o (Serve t ∷ turns) c t) ≡ need o turns c t

-- While a call needs serves of a hart, that hart can serve, and its serve lowers the need by exactly one.
abbrev pub ServesLowerNeeds : Type 0 → Type 0
ServesLowerNeeds F =
    (o : Opening F) (n : ℕ) (turns : List (Turn F)) (c t : ℕ) → IsRight o n turns → 0 < need o turns c t
    → IsLowered o n turns c t

-- No turn raises the need of an open call.
abbrev pub NoneRaisesNeeds : Type 0 → Type 0
NoneRaisesNeeds F =
    (o : Opening F) (n : ℕ) (turn : Turn F) (turns : List (Turn F)) (c t : ℕ)
    → IsRight o n (turn ∷ turns) → is_some (open_call o turns c) ≡ true → need o (turn ∷ turns) c t ≤ need o turns c t

-- The bounds of a call's need on a board of n harts: at most n - 1 serves of each hart, and at most (n - 1) * (n - 1)
-- in all. It needs none of its own hart. A hart that doesn't exist has no call, and isn't needed.
pub record AreBounded {F : Type 0} (o : Opening F) (n : ℕ) (turns : List (Turn F)) (c : ℕ) : Type 0 where
  pub each : (t : ℕ) → need o turns c t ≤ n - 1
  pub total : total_need o n turns c ≤ (n - 1) * (n - 1)
  pub own : need o turns c c ≡ 0
  pub no_caller : n ≤ c → (t : ℕ) → need o turns c t ≡ 0
  pub no_target : (t : ℕ) → n ≤ t → need o turns c t ≡ 0

-- On a board of n harts a call needs at most n - 1 serves of each hart, and at most (n - 1) * (n - 1) in all; none of
-- its caller, and none of a hart that doesn't exist.
abbrev pub NeedsAreBounded : Type 0 → Type 0
NeedsAreBounded F =
    (o : Opening F) (n : ℕ) (turns : List (Turn F)) (c : ℕ) → IsRight o n turns → AreBounded o n turns c

-- The call is still open. Its need of a hart is the earlier need less the hart's serves since, or 0 if the hart has
-- stopped since.
pub record IsLeft {F : Type 0} (o : Opening F) (newer older : List (Turn F)) (c : ℕ) : Type 0 where
  pub opened : open_call o (newer ++ older) c ≡ open_call o older c
  pub left : (t : ℕ) → need o (newer ++ older) c t
      ≡ (if list_any (is_stop t) newer then 0 else need o older c t - serves_in t newer)

-- While a call is open, its need of a hart is the earlier need less the hart's serves since, or 0 if the hart has
-- stopped since.
abbrev pub NeedsAreLeft : Type 0 → Type 0
NeedsAreLeft F =
    (o : Opening F) (n : ℕ) (newer older : List (Turn F)) (c : ℕ)
    → IsRight o n (newer ++ older) → is_some (open_call o older c) ≡ true → list_any (ends c) newer ≡ false
    → IsLeft o newer older c

-- Each hart has served since as often as the call needed, or has stopped since.
abbrev pub HaveServed : {F : Type 0} → (o : Opening F) (n : ℕ) (newer older : List (Turn F)) (c : ℕ) → Type 0
HaveServed o n newer older c = (t : ℕ) → t < n
    → (need o older c t ≤ serves_in t newer) ⊎ (list_any (is_stop t) newer ≡ true)

-- Once each hart has served as often as a call needed, or has stopped, the call waits for no hart, and can end.
abbrev pub ServedCallsCanEnd : Type 0 → Type 0
ServedCallsCanEnd F =
    (o : Opening F) (n : ℕ) (newer older : List (Turn F)) (c : ℕ)
    → IsRight o n (newer ++ older)
    → is_some (open_call o older c) ≡ true
    → list_any (ends c) newer ≡ false
    → HaveServed o n newer older c
    → IsRightTurn o n (newer ++ older) (Poll c)
