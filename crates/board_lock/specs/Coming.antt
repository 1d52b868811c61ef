-- The next operation of a hart's firmware; what a resting seat waits for, and when that has come (profile).
use Rattle.std.specs.Prelude.{◌≡◌, ℕ, Bool, true, false, ◌&&◌, ◌||◌, nat_lt, List, [], ◌∷◌, length, Option, Some, None, is_some}
use Rattle.std.specs.Option.{is_none}
use Rattle.hsm.specs.States.{goes_on, is_interruptible, is_started}
use Rattle.board_terms.specs.declared.op.Op.{Op}
use Rattle.board_terms.specs.declared.op.Op.TheVariants.{Poll, Serve, Advance}
use Rattle.board_core.specs.Refusals.{Situation, first_that_holds}
use Rattle.board_lock.specs.declared.rests.Awaits.{Awaits}
use Rattle.board_lock.specs.declared.rests.Awaits.TheVariants.{Firmware, Wake, End}
use Rattle.board_lock.specs.declared.views.HartNow.{HartNow}

-- whether a hart is inside a fence call that waits for no hart
abbrev pub waits_for_none : Option (List ℕ) → Bool
waits_for_none (Some []) = true
waits_for_none (Some (h ∷ harts)) = false
waits_for_none None = false

-- The choices of a hart's firmware, in their order. If a fence waits and the state is interruptible, it serves. In a
-- fence call it polls if the call waits for no hart, else it does nothing. If it can advance the hart, it does.
abbrev pub firmware_choices : HartNow → List (Bool × Option Op)
firmware_choices now =
    (nat_lt 0 now.waiting && is_interruptible now.state, Some Serve)
    ∷ (waits_for_none now.outstanding, Some Poll)
    ∷ (is_some now.outstanding, None)
    ∷ (goes_on now.wake now.state, Some Advance)
    ∷ []

-- the operation of a row that applies; none if no row applies
abbrev pub chosen : Option (Option Op) → Option Op
chosen None = None
chosen (Some op) = op

-- The next operation of a hart's firmware: that of the first row that applies.
abbrev pub firmware_choice : HartNow → Option Op
firmware_choice now = chosen (first_that_holds (firmware_choices now))

-- The hart that is seen has this situation.
pub record Sees (s : Situation) (now : HartNow) : Type 0 where
  pub state : now.state ≡ s.state
  pub wake : now.wake ≡ s.wake
  pub call : now.outstanding ≡ s.call
  pub fences : now.waiting ≡ length s.fences

-- Whether a hart's firmware has something to do.
abbrev pub has_turn : HartNow → Bool
has_turn now = is_some (firmware_choice now)

-- Whether a hart's guest can continue after a WFI: it runs, and has wake.
abbrev pub has_wake : HartNow → Bool
has_wake now = is_none now.outstanding && (is_started now.state && now.wake)

-- Whether what a hart's seat waits for has come.
abbrev pub has_come : Awaits → HartNow → Bool
has_come Firmware now = has_turn now
has_come Wake now = has_turn now || has_wake now
has_come End now = false

-- whether what a seat waits for has come; the clock's seat has no hart, so nothing comes to it
abbrev pub has_come_to : Awaits → Option HartNow → Bool
has_come_to awaits None = false
has_come_to awaits (Some now) = has_come awaits now
