-- The fences that were applied at a hart, and the effect of a turn on its caches (SBI 8; profile).
use Rattle.std.specs.Prelude.{ℕ, List, [], ◌∷◌, ◌++◌, map, take, ◌==◌, ◌&&◌, if◌then◌else◌}
use Rattle.rfence.specs.Opening.{Asked, Opening, place_after}
use Rattle.rfence.specs.Turns.{Turn, Ask, Own, Serve, Stop, Reset, empties}
use Rattle.rfence.specs.Waiting.{waiting}

-- A fence that was applied: the place of the turn that asked it, the place of the turn that applied it, and what it
-- drops.
pub record Applied (F : Type 0) : Type 0 where
  pub place : ℕ
  pub at : ℕ
  pub flush : F

-- The effect of a turn on a hart's caches: nothing, a fence drops what it covers, or everything is dropped.
pub data Effect (F : Type 0) : Type 0 where
  Nothing : Effect F
  -- A fence drops what it covers.
  Drops : F → Effect F
  Empties : Effect F

module _ {F : Type 0} where
  -- a waiting fence that is applied at this place
  abbrev pub applied_at : ℕ → Asked F → Applied F
  applied_at place asked = record { place = asked.place; at = place; flush = asked.flush }

  -- The fences that a turn applies at hart t. A caller that asks itself too applies its fence at once, as does a hart
  -- with a local fence. A serve applies the first waiting fence. A stop of the hart and a reset count as applying all
  -- waiting fences (profile).
  abbrev pub applied_by : ℕ → List (Asked F) → Turn F → ℕ → List (Applied F)
  applied_by place waits (Ask x asked flush) t =
      if (x == t) && asked t then record { place = place; at = place; flush = flush } ∷ [] else []
  applied_by place waits (Own x flush) t = if x == t then record { place = place; at = place; flush = flush }
      ∷ [] else []
  applied_by place waits (Serve x) t = if x == t then map (applied_at place) (take 1 waits) else []
  applied_by place waits (Stop x) t = if x == t then map (applied_at place) waits else []
  applied_by place waits Reset t = map (applied_at place) waits
  applied_by place waits turn t = []

  -- The fences that were applied at hart t since the opening.
  abbrev pub applied : Opening F → List (Turn F) → ℕ → List (Applied F)
  applied o [] t = []
  applied o (turn ∷ turns) t = applied_by (place_after o turns) (waiting o turns t) turn t ++ applied o turns t

  -- what the first of these fences drops
  abbrev pub first_drop : List (Applied F) → Effect F
  first_drop [] = Nothing
  first_drop (fence ∷ fences) = Drops fence.flush

  -- The effect of a turn on hart t's caches: the fence that it applies there drops what it covers, or, if the hart
  -- stops or the board is reset, everything is dropped.
  abbrev pub effect : Opening F → List (Turn F) → Turn F → ℕ → Effect F
  effect o turns turn t =
      if empties turn t then Empties else first_drop (applied_by (place_after o turns) (waiting o turns t) turn t)
