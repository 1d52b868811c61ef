-- What the events of a board mean for its fences: each event is one turn (SBI 8; profile). A list of turns has the
-- newest first. So the place of a turn, counted from 0, is the length of the rest of the list: the turns before it.
use Rattle.std.specs.Prelude.{ℕ, Bool, true, false, ◌==◌}

-- What an event means for fences.
pub data Turn (F : Type 0) : Type 0 where
  -- A hart asks a fence of the harts that pass the test (SBI 8).
  Ask : ℕ → (ℕ → Bool) → F → Turn F
  -- A hart makes a local fence (Privileged 4.2.1; Zifencei).
  Own : ℕ → F → Turn F
  -- A hart serves the first fence that waits there (profile).
  Serve : ℕ → Turn F
  -- A hart's fence call ends with success (profile).
  Poll : ℕ → Turn F
  -- A hart stops (SBI 9.2).
  Stop : ℕ → Turn F
  -- The board is reset (SBI 10).
  Reset : Turn F
  -- The event concerns no fence.
  Quiet : Turn F

module _ {F : Type 0} where
  -- Whether a turn empties hart t's queue and caches: a stop of the hart does, and a reset (profile).
  abbrev pub empties : Turn F → ℕ → Bool
  empties (Stop x) t = x == t
  empties Reset t = true
  empties turn t = false

  -- whether hart t serves
  abbrev pub is_serve : Turn F → ℕ → Bool
  is_serve (Serve x) t = x == t
  is_serve turn t = false

  -- whether the turn asks a fence of hart t, by itself or by another hart
  abbrev pub is_asked : Turn F → ℕ → Bool
  is_asked (Ask x asked flush) t = asked t
  is_asked (Own x flush) t = x == t
  is_asked turn t = false
