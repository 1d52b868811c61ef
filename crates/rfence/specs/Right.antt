-- The turns that are possible on a board of n harts (SBI 8; profile).
use Rattle.std.specs.Prelude.{◌≡◌, ℕ, ◌<◌, true, List, [], ◌∷◌, length, None, is_some}
use Rattle.rfence.specs.Opening.{IsOpening, Opening}
use Rattle.rfence.specs.Turns.{Turn, Ask, Own, Serve, Poll, Stop, Reset, Quiet}
use Rattle.rfence.specs.Waiting.{waiting}
use Rattle.rfence.specs.Calls.{open_call, outstanding}

module _ {F : Type 0} where
  -- Whether a turn is possible after these turns. A hart asks while it is in no call, and it asks harts that exist. It
  -- serves if a fence waits there. It polls if its call waits for no hart.
  abbrev pub IsRightTurn : Opening F → ℕ → List (Turn F) → Turn F → Type 0
  IsRightTurn o n turns (Ask x asked flush) =
      (x < n) × ((t : ℕ) → asked t ≡ true → t < n) × (open_call o turns x ≡ None)
  IsRightTurn o n turns (Own x flush) = x < n
  IsRightTurn o n turns (Serve x) = (x < n) × (0 < length (waiting o turns x))
  IsRightTurn o n turns (Poll x) = (x < n) × (is_some (open_call o turns x) ≡ true) × (outstanding o n turns x ≡ [])
  IsRightTurn o n turns (Stop x) = x < n
  IsRightTurn o n turns Reset = Unit
  IsRightTurn o n turns Quiet = Unit

  -- The opening is consistent (`IsOpening`), and each turn is possible after those before it.
  abbrev pub IsRight : Opening F → ℕ → List (Turn F) → Type 0
  IsRight o n [] = IsOpening o n
  IsRight o n (turn ∷ turns) = IsRightTurn o n turns turn × IsRight o n turns
