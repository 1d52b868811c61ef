-- The addresses that a record accesses.
use Rattle.std.specs.Prelude.{◌≡◌, ◌⊎◌, ℕ, ◌<◌, List, [], ◌∷◌, ◌++◌, Option, Some, None}
use Rattle.std.specs.List.{Contains}
use Rattle.board_terms.specs.declared.op.Actor.{Actor}
use Rattle.board_terms.specs.declared.op.Actor.TheVariants.{Hart, Clock}
use Rattle.board_core.specs.History.{Event, Reach, access_of}
use Rattle.tlb_watch.specs.declared.hart_address.HartAddress.{HartAddress}

-- the actor is there: the clock, or one of so many harts
abbrev pub IsPresent : (harts : ℕ) → Actor → Type 0
IsPresent harts (Hart h) = h < harts
IsPresent harts Clock = Unit {0}

-- the address that an actor accesses, if a hart accesses one
abbrev pub accessed_by : Actor → Option Reach → Option HartAddress
accessed_by (Hart h) (Some reach) = Some (record { hart = h; address = reach.va })
accessed_by (Hart h) None = None
accessed_by Clock reach = None

-- the address that an event accesses
abbrev pub address_of : Event → Option HartAddress
address_of event = accessed_by event.actor (access_of event.op)

-- The event's actor is there, and the address that it accesses is among these.
pub record IsWatched (harts : ℕ) (addresses : List HartAddress) (event : Event) : Type 0 where
  pub present : IsPresent harts event.actor
  pub watched : (at : HartAddress) → address_of event ≡ Some at → Contains addresses at

-- the address was put behind the others, or is among them
abbrev pub IsPut : HartAddress → (old new : List HartAddress) → Type 0
IsPut at old new = (Contains old at × (new ≡ old)) ⊎ (new ≡ old ++ at ∷ [])

-- the address that an event accesses, if it accesses one, was put so
abbrev pub IsGrown : Option HartAddress → (old new : List HartAddress) → Type 0
IsGrown None old new = new ≡ old
IsGrown (Some at) old new = IsPut at old new
