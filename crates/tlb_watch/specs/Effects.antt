-- What an event does to the caches of each hart, from what its hart had before it.
use Rattle.std.specs.Prelude.{◌≡◌, ℕ, ◌==◌, nat_lt, Bool, true, List, [], ◌∷◌, if◌then◌else◌, Option, Some, None}
use Rattle.fence_queue.specs.declared.request.Request.{Request}
use Rattle.hsm.specs.States.{is_interruptible}
use Rattle.rfence.specs.Applied as applied
use Rattle.rfence.specs.Applied.{Effect, Drops, Empties, effect}
use Rattle.rfence.specs.Turns.{Turn}
use Rattle.tlb_model.specs.declared.fence.Flush.{Flush}
use Rattle.board_terms.specs.declared.op.Actor.{Actor}
use Rattle.board_terms.specs.declared.op.Actor.TheVariants.{Hart, Clock}
use Rattle.board_core.specs.Fences.{turns, waiting}
use Rattle.board_core.specs.History.{Event}
use Rattle.board_core.specs.Opening.{Opening}
use Rattle.board_core.specs.States.{state}
use Rattle.any_tlb.specs.Effects.{effect_at, effect_by}
use Rattle.tlb_watch.specs.declared.effect.CacheEffect.{CacheEffect}
use Rattle.tlb_watch.specs.declared.effect.CacheEffect.TheVariants.{Nothing, Applied, Reset}
use Rattle.tlb_watch.specs.declared.ready.Ready.{Ready}

-- What an event does to the caches of hart h.
abbrev pub effect_on : CacheEffect → (h : ℕ) → Effect Flush
effect_on Nothing h = applied.Nothing
effect_on (Applied x flush) h = if x == h then Drops flush else applied.Nothing
effect_on Reset h = Empties

-- what a turn does to the caches of hart h, whatever they keep
abbrev pub turn_effect : Opening → List Event → Turn Flush → (h : ℕ) → Effect Flush
turn_effect o past turn h = effect_by turn (effect o.fences (turns o past) turn h)

-- what the first of these fences drops
abbrev pub first_flush : List (Request Flush) → Option Flush
first_flush [] = None
first_flush (request ∷ requests) = Some request.flush

-- The hart has this after the history: the first fence that waits there, and whether a remote fence reaches it.
pub record IsReady (o : Opening) (past : List Event) (ready : Ready) : Type 0 where
  pub first : ready.first ≡ first_flush (waiting o past ready.hart)
  pub is_reached : ready.is_reached ≡ is_interruptible (state o past ready.hart)

-- whether the actor is the clock, or one of so many harts
abbrev pub is_there : (harts : ℕ) → Actor → Bool
is_there harts (Hart x) = nat_lt x harts
is_there harts Clock = true

-- what an event does to the caches of hart h, if its actor is there
abbrev pub effect_there : Opening → List Event → Event → (h : ℕ) → Effect Flush
effect_there o past event h =
    if is_there o.config.harts event.actor then effect_at o past event h else applied.Nothing
