-- Pending interrupts (SBI 6, 7; Privileged 4.1.3).
use Rattle.std.specs.Prelude.{ℕ, ◌+◌, List, [], ◌∷◌, Bool, false, ◌||◌, if◌then◌else◌, Option, Some, None}
use Rattle.sbi_abi.specs.declared.call.Call.{Call}
use Rattle.sbi_abi.specs.declared.call.Call.TheVariants.{Time, Ipi, Hsm}
use Rattle.sbi_abi.specs.Calls.{call_of}
use Rattle.hart_mask.specs.Ids.{has}
use Rattle.interrupts.specs.Timing.{deadline_of, is_due}
use Rattle.board_rules.specs.Opening.{Opening}
use Rattle.board_rules.specs.History.{Event}
use Rattle.board_terms.specs.declared.op.Op.{Op}
use Rattle.board_terms.specs.declared.op.Op.TheVariants.{Ecall, ClearSsip, Tick}
use Rattle.board_terms.specs.declared.reply.Reply.{Reply}
use Rattle.board_rules.specs.Calls.Hsm.{deadline_by_hsm}
use Rattle.board_rules.specs.Calls.Ipi.{reaches_by_ipi}
use Rattle.board_rules.specs.Calls.Time.{deadline_by_time}
use Rattle.board_rules.specs.Course.{is_hart}
use Rattle.board_rules.specs.Csrs.{enables, sie}
use Rattle.board_rules.specs.Resets.{reset_by, reset_by_call}
use Rattle.board_rules.specs.States.{is_start_entry, is_starting, state}
use Rattle.board_rules.specs.Writes.{Write, Here, at_reset, latest}

-- ---- software interrupts

-- whether a call sends an IPI that reaches hart h
abbrev pub reaches_by_call : Opening → List Event → Call → Reply → ℕ → Bool
reaches_by_call o past (Ipi call) reply h = reaches_by_ipi o.config (state o past) call reply h
reaches_by_call o past call reply h = false

abbrev pub reaches_by : Opening → List Event → Op → Reply → ℕ → Bool
reaches_by o past (Ecall regs) reply h = reaches_by_call o past (call_of regs) reply h
reaches_by o past op reply h = false

-- The value that an event writes to SSIP, besides IPIs: 0 if a guest clears it or a start is entered, and 0 at every
-- hart at a reset (profile).
abbrev pub ssip_by : Op → Reply → (starting : Bool) → Option (Write Bool)
ssip_by ClearSsip reply starting = Some (Here false)
ssip_by op reply starting = if is_start_entry op reply starting then Some (Here false) else at_reset
    (reset_by op reply) false

-- Whether SSIP of a hart is 1: the last event that wrote it was an IPI, or none wrote it and it was 1 at the opening.
abbrev pub ssip : Opening → List Event → ℕ → Bool
ssip o [] h = has o.ssip h
ssip o (event ∷ past) h =
    reaches_by o past event.op event.reply h
    || latest (ssip_by event.op event.reply (is_starting o past event.actor)) (is_hart h event.actor) (ssip o past h)

-- ---- the timer

abbrev pub ticks_by : Op → ℕ
ticks_by (Tick n) = n
ticks_by op = 0

-- The time, in ticks: the opening's plus the ticks since (profile).
abbrev pub time : Opening → List Event → ℕ
time o [] = o.timers.time
time o (event ∷ past) = time o past + ticks_by event.op

-- The deadline that a call writes: set_timer sets its hart's (SBI 6.1), a stop removes it, and a reset removes every
-- hart's (profile).
abbrev pub deadline_by_call : Call → Reply → Option (Write (Option ℕ))
deadline_by_call (Time call) reply = deadline_by_time call reply
deadline_by_call (Hsm call) reply = deadline_by_hsm call reply
deadline_by_call call reply = at_reset (reset_by_call call reply) None

-- The deadline that an event writes: a call's; the entry of a start removes it too (profile).
abbrev pub deadline_by : Op → Reply → (starting : Bool) → Option (Write (Option ℕ))
deadline_by (Ecall regs) reply starting = deadline_by_call (call_of regs) reply
deadline_by op reply starting = if is_start_entry op reply starting then Some (Here None) else None

-- The deadline of a hart, in ticks: that of its last set_timer, or the opening's if there was none, unless it was
-- removed since.
abbrev pub deadline : Opening → List Event → ℕ → Option ℕ
deadline o [] h = deadline_of o.timers h
deadline o (event ∷ past) h =
    latest (deadline_by event.op event.reply (is_starting o past event.actor)) (is_hart h event.actor)
    (deadline o past h)

-- Whether STIP of a hart is 1: it has a deadline that is due (SBI 6.1; Privileged 4.1.3).
abbrev pub stip : Opening → List Event → ℕ → Bool
stip o past h = is_due (time o past) (deadline o past h)

-- ---- wake

-- Whether a hart has wake: a pending interrupt is enabled in sie, whatever sstatus.SIE is (Privileged 3.3.3, WFI; that
-- this wakes a suspended hart, and nothing else does: profile).
abbrev pub wake : Opening → List Event → ℕ → Bool
wake o past h = enables (sie o past h) (ssip o past h) (stip o past h)
