-- The effects of a board's turns on its harts' caches.
use Rattle.std.specs.Prelude.{ℕ, zero, suc, ◌+◌, List, [], ◌∷◌}
use Rattle.rfence.specs.Opening.{Opening}
use Rattle.rfence.specs.Turns.{Turn}
use Rattle.rfence.specs.Applied.{Effect, Nothing, Drops, Empties, effect}

-- a list with the member at one place changed
abbrev pub changed_at : {C : Type 0} → (C → C) → List C → ℕ → List C
changed_at change [] t = []
changed_at change (cache ∷ caches) zero = change cache ∷ caches
changed_at change (cache ∷ caches) (suc t) = cache ∷ changed_at change caches t

-- a list with each member changed by its place; the first has place t
abbrev pub changed_from : {C : Type 0} → (ℕ → C → C) → ℕ → List C → List C
changed_from change t [] = []
changed_from change t (cache ∷ caches) = change t cache ∷ changed_from change (t + 1) caches

module _ {F C : Type 0} (dropped : F → C → C) (emptied : C → C) where
  -- the caches of a hart after an effect
  abbrev pub affected : Effect F → C → C
  affected Nothing caches = caches
  affected (Drops flush) caches = dropped flush caches
  affected Empties caches = emptied caches

  -- The caches of all harts, by their ids, after a turn: each hart's with the turn's effect there.
  abbrev pub caches_after : Opening F → List (Turn F) → Turn F → List C → List C
  caches_after o turns turn caches = changed_from (λ t cache. affected (effect o turns turn t) cache) 0 caches
