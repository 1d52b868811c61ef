-- What a hart's thread chooses to do (profile).
use Rattle.std.specs.Prelude.{Bool, false, ◌&&◌, List, [], ◌∷◌, ◌++◌, if◌then◌else◌, Option, Some, None}
use Rattle.board_terms.specs.declared.op.Op.{Op}
use Rattle.board_terms.specs.declared.op.Op.TheVariants.{Wfi}
use Rattle.hsm.specs.States.{is_started}
use Rattle.board_core.specs.Refusals.{IsAccepted, Situation, first_that_holds}
use Rattle.board_lock.specs.Coming.{chosen, firmware_choices}
use Rattle.board_lock.specs.declared.rests.Awaits.{Awaits}
use Rattle.board_lock.specs.declared.rests.Awaits.TheVariants.{Firmware, Wake, End}
use Rattle.board_lock.specs.declared.views.HartNow.{HartNow}
use Rattle.board_lock.specs.declared.views.HartView.{HartView}
use Rattle.guest_programs.specs.declared.met.Met.{Met}
use Rattle.guest_programs.specs.declared.met.Met.TheVariants.{Nothing}
use Rattle.guest_programs.specs.Guests.{is_guest}
use Rattle.guest_programs.specs.Steps.{IsOwn}

-- whether an operation is a guest's and doesn't wait; a Wfi waits for wake
abbrev pub goes : Op → (wake : Bool) → Bool
goes Wfi wake = wake
goes op wake = is_guest op

-- whether a guest has a next operation, which doesn't wait
abbrev pub is_going : Option Op → (wake : Bool) → Bool
is_going None wake = false
is_going (Some op) wake = goes op wake

-- The choices of a hart, in their order: first its firmware's; then, if it is STARTED, its guest's next operation.
abbrev pub choices : HartNow → (guest : Option Op) → List (Bool × Option Op)
choices now guest = firmware_choices now ++ (is_started now.state && is_going guest now.wake, guest) ∷ []

-- The next operation of a hart: that of the first row that applies.
abbrev pub first_choice : HartNow → (guest : Option Op) → Option Op
first_choice now guest = chosen (first_that_holds (choices now guest))

abbrev pub choice_of : Option HartNow → (guest : Option Op) → Option Op
choice_of None guest = None
choice_of (Some now) guest = first_choice now guest

-- The next operation of a hart's thread: none with the power off, and none after it met something.
abbrev pub next_choice : HartView → Met → (guest : Option Op) → Option Op
next_choice view Nothing guest = if view.is_off then None else choice_of view.hart guest
next_choice view met guest = None

abbrev pub awaited_by : (guest : Option Op) → Awaits
awaited_by None = Firmware
awaited_by (Some Wfi) = Wake
awaited_by (Some op) = Firmware

-- What an idle hart's thread waits for: work for its firmware, or also wake, if its guest is at a Wfi. With the power
-- off, or after it met something, it waits only for the end.
abbrev pub awaited : HartView → Met → (guest : Option Op) → Awaits
awaited view Nothing guest = if view.is_off then End else awaited_by guest
awaited view met guest = End

-- No operation of a hart's own is accepted in this situation.
abbrev pub HasNothing : Option Op → Situation → Type 0
HasNothing guest s = (op : Op) → IsOwn guest op → ¬ IsAccepted op s
