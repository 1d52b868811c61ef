-- Rests: which seats rest, until when, and when a rest is over (profile).
use Rattle.std.specs.Prelude.{◌≡◌, ◌≢◌, ℕ, ◌<◌, ◌&&◌, Bool, true, false, not, List, [], length, Option}
use Rattle.hart_mask.specs.Ids.{IsIdSet, has, ids_where, with_bit, with_id}
use Rattle.board_terms.specs.declared.op.Actor.{Actor}
use Rattle.board_terms.specs.declared.op.Actor.TheVariants.{Hart, Clock}
use Rattle.board_core.specs.Course.{Course}
use Rattle.board_lock.specs.declared.desk.Pause.{Pause}
use Rattle.board_lock.specs.declared.desk.Pause.TheVariants.{Waits, Over, Last}
use Rattle.board_lock.specs.Coming.{has_come_to}
use Rattle.board_lock.specs.declared.rests.Awaits.{Awaits}
use Rattle.board_lock.specs.declared.rests.Awaits.TheVariants.{Firmware, Wake, End}
use Rattle.board_lock.specs.declared.rests.Rest.TheVariants as rest
use Rattle.board_lock.specs.declared.rests.Rests.{Rests}
use Rattle.board_lock.specs.declared.rests.Until.{Until}
use Rattle.board_lock.specs.declared.rests.Until.TheVariants.{Event, For}
use Rattle.board_lock.specs.declared.rests.Woken.{Woken}
use Rattle.board_lock.specs.declared.views.HartNow.{HartNow}

-- no seat rests
abbrev pub none_rest : Rests
none_rest = record { harts = []; events = []; firmware = []; wakes = []; clock = false; clock_events = false }

-- whether any event ends a rest
abbrev pub is_any : Until → Bool
is_any Event = true
is_any (For awaits) = false

-- whether work for its hart's firmware ends a rest
abbrev pub for_firmware : Until → Bool
for_firmware Event = false
for_firmware (For Firmware) = true
for_firmware (For Wake) = true
for_firmware (For End) = false

-- whether wake ends a rest too
abbrev pub for_wake : Until → Bool
for_wake Event = false
for_wake (For Firmware) = false
for_wake (For Wake) = true
for_wake (For End) = false

-- the rests, where this actor's seat rests too
abbrev pub resting : Rests → Actor → Until → Rests
resting r (Hart h) until = record {
  harts = with_id r.harts h;
  events = with_bit r.events h (is_any until);
  firmware = with_bit r.firmware h (for_firmware until);
  wakes = with_bit r.wakes h (for_wake until);
  clock = r.clock;
  clock_events = r.clock_events;
}
resting r Clock until = record {
  harts = r.harts;
  events = r.events;
  firmware = r.firmware;
  wakes = r.wakes;
  clock = true;
  clock_events = is_any until;
}

-- the ids of a set that aren't in another
abbrev pub less : List ℕ → List ℕ → List ℕ
less ids others = ids_where (λ i. has ids i && not (has others i))

-- no seat is woken
abbrev pub none_woken : Woken
none_woken = record { harts = []; clock = false }

-- the rests, where these seats no longer rest
abbrev pub awake : Rests → Woken → Rests
awake r w = record {
  harts = less r.harts w.harts;
  events = r.events;
  firmware = r.firmware;
  wakes = r.wakes;
  clock = r.clock && not w.clock;
  clock_events = r.clock_events;
}

-- Every seat of a board of so many harts rests: the harts' and the clock's.
pub record AllRest (harts : ℕ) (r : Rests) : Type 0 where
  pub clock : r.clock ≡ true
  pub each : (h : ℕ) → h < harts → has r.harts h ≡ true

-- The harts that rest are a set of the board's harts.
pub record IsRests (harts : ℕ) (r : Rests) : Type 0 where
  pub set : IsIdSet r.harts
  pub below : (h : ℕ) → has r.harts h ≡ true → h < harts

-- What the lock protects: the board, the rests, and whether an end was asked for or every seat rested.
pub record Held : Type 0 where
  pub board : Course
  pub rests : Rests
  pub ended : Bool

abbrev pub held : Course → Rests → Bool → Held
held board rests ended = record { board = board; rests = rests; ended = ended }

-- The actor's seat rests too. Either it was the last, or another seat doesn't rest.
abbrev pub IsStay : Pause → (old new : Held) → Actor → Until → Type 0
IsStay (Over r) old new a until = ⊥
IsStay Waits old new a until =
    (new ≡ held old.board (resting old.rests a until) false) × ¬ AllRest old.board.opening.config.harts new.rests
IsStay Last old new a until =
    (new ≡ held old.board (resting old.rests a until) true) × AllRest old.board.opening.config.harts new.rests

-- The result of a seat's attempt to rest, if it has seen so many events. AllRest if and only if an end was asked for,
-- or all rested before. Otherwise Changed if and only if the number of events is another. Otherwise the seat rests.
abbrev pub IsPause : Pause → (old new : Held) → Actor → (seen : ℕ) → Type 0
IsPause (Over rest.AllRest) old new a seen = (old.ended ≡ true) × (new ≡ old)
IsPause (Over rest.Changed) old new a seen = (old.ended ≡ false) × (length old.board.past ≢ seen) × (new ≡ old)
IsPause Waits old new a seen = (old.ended ≡ false) × (length old.board.past ≡ seen) × IsStay Waits old new a Event
IsPause Last old new a seen = (old.ended ≡ false) × (length old.board.past ≡ seen) × IsStay Last old new a Event

-- The same for a seat that waits for something, if its hart is so now: Changed if and only if that has come.
abbrev pub IsPauseFor : Pause → (old new : Held) → Actor → Awaits → (now : Option HartNow) → Type 0
IsPauseFor (Over rest.AllRest) old new a awaits now = (old.ended ≡ true) × (new ≡ old)
IsPauseFor (Over rest.Changed) old new a awaits now = (old.ended ≡ false) × (has_come_to awaits now ≡ true)
    × (new ≡ old)
IsPauseFor Waits old new a awaits now = (old.ended ≡ false) × (has_come_to awaits now ≡ false)
    × IsStay Waits old new a (For awaits)
IsPauseFor Last old new a awaits now = (old.ended ≡ false) × (has_come_to awaits now ≡ false)
    × IsStay Last old new a (For awaits)
