-- What a tracker has of a board's history.
use Rattle.std.specs.Prelude.{◌≡◌, ℕ, ◌<◌, List, [], ◌∷◌, map, Option, slice_index_or}
use Rattle.std.specs.List.{All}
use Rattle.board_core.specs.History.{Event}
use Rattle.board_core.specs.Opening.{Opening}
use Rattle.any_tlb.specs.declared.watcher.Walking.TheVariants.{Had}
use Rattle.tlb_watch.specs.declared.effect.CacheEffect.{CacheEffect}
use Rattle.tlb_watch.specs.declared.hart_address.HartAddress.{HartAddress}
use Rattle.tlb_watch.specs.Effects.{effect_on}
use Rattle.tlb_watch.specs.Watched.{WatchTheSame, WatchedAddress, after_event, watch_of}

-- the addresses of what is watched
abbrev pub addresses_of : List WatchedAddress → List HartAddress
addresses_of watches = map (λ (w : WatchedAddress). w.at) watches

-- These are the watches of the addresses after a history: each is like what is watched of its address. The harts of the
-- addresses exist.
pub record IsTracking (o : Opening) (past : List Event) (addresses : List HartAddress) (watches : List WatchedAddress) : Type 0 where
  pub are : addresses_of watches ≡ addresses
  pub present : All (λ (at : HartAddress). at.hart < o.config.harts) addresses
  pub each : All (λ (w : WatchedAddress). WatchTheSame w (watch_of o past w.at)) watches

-- satp of hart h, among those of all harts
abbrev pub satp_in : List ℕ → (h : ℕ) → ℕ
satp_in satps h = slice_index_or satps h 0

-- What is watched of an address after an event with this effect, which leaves this memory and these satps, is like
-- what was watched, and changed by the event.
abbrev pub Follows : CacheEffect → (memory : ℕ → Option ℕ) → (satps : List ℕ) → (before after : WatchedAddress) → Type 0
Follows effect memory satps before after =
    WatchTheSame after (after_event (effect_on effect before.at.hart) memory (satp_in satps before.at.hart) before)

-- what is watched of an address at a board's first opening: the hart has satp 0, and nothing lives in its TLB
abbrev pub first_watch : HartAddress → WatchedAddress
first_watch at = record { at = at; walks = Had 0 ∷ []; entries = [] }
