-- Starts of harts, and their entries (SBI 9.1).
use Rattle.std.specs.Prelude.{◌≡◌, ℕ, List, [], ◌∷◌, ◌++◌, Bool, ◌==◌, if◌then◌else◌, Option, Some, None, unwrap_or, filter, find, option_to_list}
use Rattle.std.specs.List.{filter_map}
use Rattle.sbi_abi.specs.declared.call.Call.{Call}
use Rattle.sbi_abi.specs.declared.call.Call.TheVariants.{Hsm}
use Rattle.sbi_abi.specs.Calls.{call_of}
use Rattle.sbi_abi.specs.declared.reset.Reset.{Reset}
use Rattle.hsm.specs.declared.hart.HartState.{HartState}
use Rattle.hsm.specs.declared.hart.HartState.TheVariants as states
use Rattle.hsm.specs.declared.hart.EntryPoint.{EntryPoint}
use Rattle.hsm.specs.Harts.{Hart}
use Rattle.hsm.specs.States.{is_start_pending}
use Rattle.hsm.specs.Transitions.{hart_at}
use Rattle.board_terms.specs.declared.config.Config.{Config}
use Rattle.board_rules.specs.Opening.{Opening}
use Rattle.board_rules.specs.History.{Event}
use Rattle.board_terms.specs.declared.op.Op.{Op}
use Rattle.board_terms.specs.declared.op.Op.TheVariants.{Ecall, Advance}
use Rattle.board_terms.specs.declared.reply.Reply.{Reply}
use Rattle.board_terms.specs.declared.reply.Reply.TheVariants.{Entry}
pub use Rattle.board_rules.specs.Writes.{Start}
use Rattle.board_rules.specs.Calls.Hsm.{started_by_hsm}
use Rattle.board_rules.specs.Course.{harts_of}
use Rattle.board_rules.specs.Resets.{begins_anew, reset_by, reset_by_call}
use Rattle.board_rules.specs.States.{is_starting, state}
use Rattle.board_rules.specs.Suspends.{resume_point}

-- the firmware's own start of the boot hart
abbrev pub boot_start : Config → Start
boot_start c = record { hart = c.boot_hart; addr = c.boot_addr; opaque = c.boot_opaque }

-- how an event changes a list of starts: one more, or another list
pub data Growth : Type 0 where
  More : Start → Growth
  Anew : List Start → Growth

abbrev pub grown : Option Growth → List Start → List Start
grown None starts = starts
grown (Some (More start)) starts = start ∷ starts
grown (Some (Anew starts)) before = starts

-- the change of a list of starts: a start is one more, and a reset replaces the list
abbrev pub growth : Option Start → Option Reset → (anew : Reset → List Start) → Option Growth
growth (Some start) reset anew = Some (More start)
growth None None anew = None
growth None (Some reset) anew = Some (Anew (anew reset))

-- The starts after a reset: the firmware's own after a reboot, and none after a shutdown (profile).
abbrev pub starts_at : Config → Reset → List Start
starts_at c reset = if begins_anew reset.kind then boot_start c ∷ [] else []

-- the start that a call asks for, if the call succeeded
abbrev pub started_by_call : Call → Reply → Option Start
started_by_call (Hsm call) reply = started_by_hsm call reply
started_by_call call reply = None

abbrev pub start_by_call : Config → Call → Reply → Option Growth
start_by_call c call reply = growth (started_by_call call reply) (reset_by_call call reply) (starts_at c)

abbrev pub start_by : Config → Op → Reply → Option Growth
start_by c (Ecall regs) reply = start_by_call c (call_of regs) reply
start_by c op reply = None

-- a hart's pending start, by its state and its entry point
abbrev pub start_in : (h : ℕ) → HartState → Option EntryPoint → Option Start
start_in h states.StartPending (Some kept) = Some (record { hart = h; addr = kept.addr; opaque = kept.opaque })
start_in h s kept = None

-- The starts that are pending at the opening; at a board's first opening only the firmware's own.
abbrev pub starts_opened : Opening → List Start
starts_opened o = filter_map (λ h. start_in h (hart_at o.harts h).state (hart_at o.harts h).kept) (harts_of o.config)

-- The starts since the last reset, newest first: those of successful calls, and the firmware's own after a reboot.
-- Without a reset since the opening: those since then, and before them the starts pending there.
abbrev pub starts : Opening → List Event → List Start
starts o [] = starts_opened o
starts o (event ∷ past) = grown (start_by o.config event.op event.reply) (starts o past)

-- the start that a step enters: an Advance with an entry, of a hart whose start is pending
abbrev pub entered_by : Op → Reply → (starting : Bool) → Option Start
entered_by Advance (Entry addr hart opaque) starting =
    if starting then Some (record { hart = hart; addr = addr; opaque = opaque }) else None
entered_by op reply starting = None

abbrev pub entry_by : Op → Reply → (starting : Bool) → Option Growth
entry_by op reply starting = growth (entered_by op reply starting) (reset_by op reply) (λ reset. [])

-- The entries of starts since the last reset, or since the opening, newest first, as their replies say.
abbrev pub entries : Opening → List Event → List Start
entries o [] = []
entries o (event ∷ past) = grown (entry_by event.op event.reply (is_starting o past event.actor)) (entries o past)

-- The number of starts entered before the opening and since the last reset; 0 if a reset came after the opening.
abbrev pub unless_reset : Option Reset → ℕ → ℕ
unless_reset None entered = entered
unless_reset (Some reset) entered = 0

abbrev pub entered_before : Opening → List Event → ℕ
entered_before o [] = o.entered
entered_before o (event ∷ past) = unless_reset (reset_by event.op event.reply) (entered_before o past)

abbrev pub is_of : ℕ → Start → Bool
is_of h start = h == start.hart

-- the last start of a hart; without one the boot hart's
abbrev pub last_start : Opening → List Event → ℕ → Start
last_start o past h = unwrap_or (find (is_of h) (starts o past)) (boot_start o.config)

-- The pending start of a hart: its last one, while the hart is START_PENDING.
abbrev pub pending : Opening → List Event → ℕ → Option Start
pending o past h = if is_start_pending (state o past h) then Some (last_start o past h) else None

abbrev pub all_pending : Opening → List Event → List Start
all_pending o past = filter_map (pending o past) (harts_of o.config)

-- A hart's entry point, by its state: in START_PENDING its start's (SBI 9.1), in a suspend the suspend's (SBI 9.4),
-- else none.
abbrev pub kept_in : HartState → Start → (resume : Option EntryPoint) → Option EntryPoint
kept_in states.StartPending start resume = Some (record { addr = start.addr; opaque = start.opaque })
kept_in states.SuspendPending start resume = resume
kept_in states.Suspended start resume = resume
kept_in states.ResumePending start resume = resume
kept_in s start resume = None

-- A hart's entry point: in START_PENDING the address and opaque value of its start, in a non-retentive suspend those of
-- the suspend, else none (SBI 9.1, 9.4).
abbrev pub kept : Opening → List Event → ℕ → Option EntryPoint
kept o past h = kept_in (state o past h) (last_start o past h) (resume_point o past h)

-- a hart by its history: its state, and its entry point
abbrev pub hart_of : Opening → List Event → ℕ → Hart
hart_of o past h = record { state = state o past h; kept = kept o past h }

-- The starts of a hart, newest first, are its pending start, if any, and then its entries. So each start is pending, or
-- was entered with its own address and opaque value (SBI 9.1).
abbrev pub StartsAreEntered : Opening → List Event → Type 0
StartsAreEntered o past = (h : ℕ) →
    filter (is_of h) (starts o past) ≡ option_to_list (pending o past h) ++ filter (is_of h) (entries o past)
