-- What guests met in many records (profile).
use Rattle.std.specs.Prelude.{◌≡◌, ◌↔◌, ◌⊎◌, ℕ, ◌+◌, ◌-◌, ◌^◌, min, nat_lt, Bool, true, false, if◌then◌else◌, List, [], ◌∷◌, length, map, reverse, Option, Some, None}
use Rattle.std.specs.Option.{option_map}
use Rattle.std.specs.Global.{Vec}
use Rattle.std.specs.BTreeSet.{BTreeSet}
use Rattle.board_terms.specs.declared.op.Actor.{Actor}
use Rattle.board_terms.specs.declared.op.Actor.TheVariants.{Hart, Clock}
use Rattle.board_terms.specs.declared.op.Op.{Op}
use Rattle.board_terms.specs.declared.op.Op.TheVariants.{Ecall}
use Rattle.board_terms.specs.declared.reply.Reply.{Reply}
use Rattle.board_terms.specs.declared.reply.Reply.TheVariants.{Entry}
use Rattle.board_core.specs.ErrorLaw.{is_error}
use Rattle.board_core.specs.History.{Event}
use Rattle.guest_programs.specs.Guests.{did, last_entry}
use Rattle.seeded_orders.specs.Choices.{choice_of}
use Rattle.outcome_statistics.specs.declared.visits.Spot.{Spot}
use Rattle.outcome_statistics.specs.declared.visits.Visits.{Visits}
use Rattle.outcome_statistics.specs.Records.{SomeIs, Tried}

-- a list has this item
abbrev pub HasKey : {X : Type 0} → List X → X → Type 0
HasKey xs x = SomeIs (λ y. y ≡ x) xs

-- ---- one event

-- The place of hart h's guest: the address of its last entry, and how many operations it did since then (counted up to 2^64-1).
abbrev pub spot_of : List Event → ℕ → Option Spot
spot_of past h =
    option_map (λ entry. record { addr = entry.addr; before = min (length (did past h)) (2 ^ 64 - 1) }) (last_entry past h)

-- the place behind an operation of a guest (counted up to 2^64-1)
abbrev pub place_behind : Option Spot → Option Spot
place_behind guest = option_map (λ spot. record { addr = spot.addr; before = min (spot.before + 1) (2 ^ 64 - 1) }) guest

-- the place of the guest of an event's hart, if it is one of the board's harts
abbrev pub spot_at : (harts : ℕ) → List Event → Actor → Option Spot
spot_at harts past (Hart h) = if nat_lt h harts then spot_of past h else None
spot_at harts past Clock = None

-- the address at which a reply enters a hart
abbrev pub entry_at : Reply → Option ℕ
entry_at (Entry addr hart opaque) = Some addr
entry_at reply = None

-- whether an operation is a call
abbrev pub is_call : Op → Bool
is_call (Ecall call) = true
is_call op = false

-- The event is a call of a guest at this place. It fails if it returns with an error. Else it succeeds: it returns SUCCESS, waits for
-- its poll, which answers SUCCESS, or doesn't return.
abbrev pub IsCallAt : Option Spot → Event → Spot → (fails : Bool) → Type 0
IsCallAt guest e spot fails = (guest ≡ Some spot) × (is_call e.op ≡ true) × (is_error e.reply ≡ fails)

-- ---- a history, the newest event in front

-- A hart was entered at this address.
abbrev pub Enters : List Event → ℕ → Type 0
Enters [] addr = ⊥
Enters (e ∷ past) addr = Enters past addr ⊎ (entry_at e.reply ≡ Some addr)

-- A guest made a call at this place that failed, or one that succeeded.
abbrev pub Calls : (harts : ℕ) → List Event → Spot → (fails : Bool) → Type 0
Calls harts [] spot fails = ⊥
Calls harts (e ∷ past) spot fails = Calls harts past spot fails ⊎ IsCallAt (spot_at harts past e.actor) e spot fails

-- ---- many records

-- `after` has these entries and calls, and those of `before`.
pub record IsWith (E : ℕ → Type 0) (C : Spot → Bool → Type 0) (before after : Visits) : Type 0 where
  pub entered : (addr : ℕ) → HasKey after.entered.keys addr ↔ (HasKey before.entered.keys addr ⊎ E addr)
  pub succeeded : (spot : Spot) → HasKey after.succeeded.keys spot ↔ (HasKey before.succeeded.keys spot ⊎ C spot false)
  pub failed : (spot : Spot) → HasKey after.failed.keys spot ↔ (HasKey before.failed.keys spot ⊎ C spot true)

-- What guests met in some of these records: the entries, the calls that succeeded, and those that failed. (Nothing is said of the
-- kept steps.)
pub record AreVisited (harts : ℕ) (tried : List Tried) (visits : Visits) : Type 0 where
  pub entered : (addr : ℕ) → HasKey visits.entered.keys addr ↔ SomeIs (λ x. Enters (reverse x.events) addr) tried
  pub succeeded : (spot : Spot) → HasKey visits.succeeded.keys spot ↔ SomeIs (λ x. Calls harts (reverse x.events) spot false) tried
  pub failed : (spot : Spot) → HasKey visits.failed.keys spot ↔ SomeIs (λ x. Calls harts (reverse x.events) spot true) tried

-- The different records, each as its choices, are exactly those of these.
abbrev pub AreRecords : List Tried → BTreeSet (Vec ℕ) → Type 0
AreRecords tried records =
    (choices : List ℕ) → SomeIs (λ v. v.items ≡ choices) records.keys ↔ SomeIs (λ x. map choice_of x.events ≡ choices) tried
