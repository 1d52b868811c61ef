-- What events do to the caches of a hart on any board, and which former values the hart may still see (Privileged
-- 4.2.1).
use Rattle.std.specs.Prelude.{◌≡◌, ◌⊎◌, ℕ, List, [], ◌∷◌, Bool, false}
use Rattle.rfence.specs.Applied.{Effect, Nothing, effect}
use Rattle.rfence.specs.Turns.{Turn, Stop}
use Rattle.tlb_model.specs.declared.fence.Flush.{Flush}
use Rattle.board_core.specs.Fences.{turn_of, turns}
use Rattle.board_core.specs.History.{Event}
use Rattle.board_core.specs.Opening.{Opening}

-- The effect of a turn on any caches. A stop has none: no standard says that it empties caches, or that it applies
-- the fences that wait at the hart (Privileged 4.2.1; SBI 9.2).
abbrev pub effect_by : Turn Flush → Effect Flush → Effect Flush
effect_by (Stop x) done = Nothing
effect_by turn done = done

-- What an event does to the caches of hart h, whatever caches these are. A fence that is applied there drops what it
-- covers (Privileged 4.2.1; Zifencei). A reset empties them (profile). A stop, a suspend and an entry do nothing.
abbrev pub effect_at : Opening → List Event → Event → (h : ℕ) → Effect Flush
effect_at o past event h =
    effect_by (turn_of o past event.actor event.op event.reply)
    (effect o.fences (turns o past) (turn_of o past event.actor event.op event.reply) h)

-- A value that changes with events, as hart h may still see it: the present one, or one that it could see before the
-- last event, unless that event orders the value for the hart (Privileged 4.2.1).
abbrev pub MaySee : {A : Type 0} → (List Event → A) → (ordered : Effect Flush → Bool) → Opening → List Event → (h : ℕ) → A
    → Type 0
MaySee of ordered o [] h value = of [] ≡ value
MaySee of ordered o (event ∷ past) h value =
    (of (event ∷ past) ≡ value) ⊎ (MaySee of ordered o past h value × (ordered (effect_at o past event h) ≡ false))
