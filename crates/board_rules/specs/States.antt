-- The states of harts (SBI 9, HSM states): the last event that changed a hart's state decides.
use Rattle.std.specs.Prelude.{ℕ, List, [], ◌∷◌, Bool, false, ◌==◌, if◌then◌else◌, Option, Some, None}
use Rattle.sbi_abi.specs.declared.call.Call.{Call}
use Rattle.sbi_abi.specs.declared.call.Call.TheVariants.{Hsm}
use Rattle.sbi_abi.specs.Calls.{call_of}
use Rattle.sbi_abi.specs.declared.reset.Reset.{Reset}
use Rattle.hsm.specs.declared.hart.HartState.{HartState}
use Rattle.hsm.specs.declared.hart.HartState.TheVariants as states
use Rattle.hsm.specs.States.{is_start_pending}
use Rattle.hsm.specs.Transitions.{hart_at}
use Rattle.board_terms.specs.declared.config.Config.{Config}
use Rattle.board_rules.specs.Opening.{Opening}
use Rattle.board_terms.specs.declared.op.Actor.{Actor}
use Rattle.board_terms.specs.declared.op.Actor.TheVariants.{Hart, Clock}
use Rattle.board_rules.specs.History.{Event}
use Rattle.board_rules.specs.Calls.Hsm.{move_by_hsm}
use Rattle.board_rules.specs.Resets.{begins_anew, reset_by_call}
use Rattle.board_terms.specs.declared.op.Op.{Op}
use Rattle.board_terms.specs.declared.op.Op.TheVariants.{Ecall, Advance}
use Rattle.board_terms.specs.declared.reply.Reply.{Reply}
use Rattle.board_terms.specs.declared.reply.Reply.TheVariants.{Ret, Entry, Moved}
pub use Rattle.board_rules.specs.Writes.{Move, One, Each, moved_to}

-- The firmware itself starts the boot hart: its start is pending, and the other harts are STOPPED (profile).
abbrev pub state_at_boot : Config → ℕ → HartState
state_at_boot c h = if h == c.boot_hart then states.StartPending else states.Stopped

-- A reset makes each hart STOPPED, and a reboot starts the boot hart again (profile).
abbrev pub state_at_reset : Config → Reset → ℕ → HartState
state_at_reset c reset h = if begins_anew reset.kind then state_at_boot c h else states.Stopped

abbrev pub move_at_reset : Config → Option Reset → Option Move
move_at_reset c None = None
move_at_reset c (Some reset) = Some (Each (state_at_reset c reset))

-- The change of states by a call of hart x: an HSM call changes one hart's, and a reset every hart's.
abbrev pub move_by_call : Config → (x : ℕ) → Call → Reply → Option Move
move_by_call c x (Hsm call) reply = move_by_hsm x call reply
move_by_call c x call reply = move_at_reset c (reset_by_call call reply)

-- The change of states by an operation of hart x: a call's, or an Advance of its own hart. An entry, and the return
-- from a retentive suspend, make the hart STARTED.
abbrev pub move_by : Config → (x : ℕ) → Op → Reply → Option Move
move_by c x (Ecall regs) reply = move_by_call c x (call_of regs) reply
move_by c x Advance (Entry addr hart opaque) = Some (One x states.Started)
move_by c x Advance (Ret answer) = Some (One x states.Started)
move_by c x Advance (Moved s) = Some (One x s)
move_by c x op reply = None

-- an actor's change of states; the clock changes none
abbrev pub move_of : Config → Actor → Op → Reply → Option Move
move_of c (Hart x) op reply = move_by c x op reply
move_of c Clock op reply = None

-- A hart's state: the one that the last event that changed it gave it, or the opening's if there was none (SBI 9).
abbrev pub state : Opening → List Event → ℕ → HartState
state o [] h = (hart_at o.harts h).state
state o (event ∷ past) h = moved_to (move_of o.config event.actor event.op event.reply) h (state o past h)

-- whether the actor is a hart whose start is pending
abbrev pub is_starting : Opening → List Event → Actor → Bool
is_starting o past (Hart x) = is_start_pending (state o past x)
is_starting o past Clock = false

-- Whether a step is the entry of a start: an Advance with an entry, of a hart whose start is pending (SBI 9.1).
abbrev pub is_start_entry : Op → Reply → (starting : Bool) → Bool
is_start_entry Advance (Entry addr hart opaque) starting = starting
is_start_entry op reply starting = false
