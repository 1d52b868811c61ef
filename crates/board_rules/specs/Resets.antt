-- System resets (SBI 10).
use Rattle.std.specs.Prelude.{List, [], ◌∷◌, Bool, true, false, not, Option, Some, None}
use Rattle.sbi_abi.specs.declared.call.Call.{Call}
use Rattle.sbi_abi.specs.declared.call.Call.TheVariants.{Srst}
use Rattle.sbi_abi.specs.declared.reset.Reset.{Reset}
use Rattle.sbi_abi.specs.declared.reset.ResetKind.{ResetKind}
use Rattle.sbi_abi.specs.declared.reset.ResetKind.TheVariants.{Shutdown, ColdReboot, WarmReboot}
use Rattle.sbi_abi.specs.Calls.{call_of}
use Rattle.board_rules.specs.History.{Event}
use Rattle.board_rules.specs.Opening.{Opening}
use Rattle.board_terms.specs.declared.op.Op.{Op}
use Rattle.board_terms.specs.declared.op.Op.TheVariants.{Ecall}
use Rattle.board_terms.specs.declared.reply.Reply.{Reply}
use Rattle.board_rules.specs.Calls.Srst.{reset_by_srst}

-- The call as a system reset, if it is one.
abbrev pub reset_by_call : Call → Reply → Option Reset
reset_by_call (Srst call) reply = reset_by_srst call reply
reset_by_call call reply = None

-- The event as a system reset, if it is one: a call of system_reset that doesn't return (SBI 10).
abbrev pub reset_by : Op → Reply → Option Reset
reset_by (Ecall regs) reply = reset_by_call (call_of regs) reply
reset_by op reply = None

abbrev pub newer_or : {A : Type 0} → Option A → Option A → Option A
newer_or None before = before
newer_or (Some value) before = Some value

-- The last reset, if there was one.
abbrev pub last_reset : Opening → List Event → Option Reset
last_reset o [] = o.last_reset
last_reset o (event ∷ past) = newer_or (reset_by event.op event.reply) (last_reset o past)

-- Whether the firmware starts the boot hart again: after a reboot, not after a shutdown (SBI 10.1; profile).
abbrev pub begins_anew : ResetKind → Bool
begins_anew Shutdown = false
begins_anew ColdReboot = true
begins_anew WarmReboot = true

-- Whether a reset clears the memory: a cold reboot does (profile).
abbrev pub is_cold : ResetKind → Bool
is_cold ColdReboot = true
is_cold kind = false

-- Whether a reset was a shutdown.
abbrev pub is_shutdown : Option Reset → Bool
is_shutdown None = false
is_shutdown (Some reset) = not (begins_anew reset.kind)

-- Whether the power is off: the last reset was a shutdown (SBI 10).
abbrev pub is_off : Opening → List Event → Bool
is_off o past = is_shutdown (last_reset o past)
