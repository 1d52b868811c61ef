-- The Hart State Management extension (SBI 9): the replies and effects of its calls.
use Rattle.std.specs.Prelude.{ℕ, List, [], ◌∷◌, Bool, not, nat_le, if◌then◌else◌, Option, Some, None, Result, Ok, Err}
use Rattle.sbi_abi.specs.declared.answer.SbiError.{SbiError}
use Rattle.sbi_abi.specs.declared.answer.SbiError.TheVariants.{Failed, InvalidParam, InvalidAddress, AlreadyAvailable}
use Rattle.sbi_abi.specs.declared.call.hsm.HsmCall.{HsmCall}
use Rattle.sbi_abi.specs.declared.call.hsm.HsmCall.TheVariants.{HartStart, HartStop, HartGetStatus, HartSuspend}
use Rattle.sbi_abi.specs.declared.suspend.SuspendKind.{SuspendKind}
use Rattle.sbi_abi.specs.declared.suspend.SuspendKind.TheVariants.{Retentive, NonRetentive}
use Rattle.sbi_abi.specs.Errors.{is_success}
use Rattle.hsm.specs.declared.hart.HartState.{HartState}
use Rattle.hsm.specs.declared.hart.HartState.TheVariants as states
use Rattle.hsm.specs.declared.hart.EntryPoint.{EntryPoint}
use Rattle.hsm.specs.States.{is_stopped, state_number}
use Rattle.rfence.specs.Turns.{Turn, Stop, Quiet}
use Rattle.tlb_model.specs.declared.fence.Flush.{Flush}
use Rattle.board_terms.specs.declared.config.Config.{Config}
use Rattle.board_terms.specs.declared.reply.Reply.{Reply}
use Rattle.board_terms.specs.declared.reply.Reply.TheVariants.{Ret, Waiting, Gone}
use Rattle.board_terms.specs.Limits.{is_start_address}
use Rattle.board_terms.specs.Refusals.{first_that_holds}
use Rattle.board_rules.specs.Returns.{CallReply, Leaves, Returns, Waits}
use Rattle.board_rules.specs.Writes.{Move, One, Start, Write, Here}

-- ---- replies

-- The errors of a start of hart t, in their order (SBI 9.1; the order, and which addresses are valid: profile).
abbrev pub start_errors : Config → (state : ℕ → HartState) → (t addr : ℕ) → List (Bool × SbiError)
start_errors c state t addr =
    (nat_le c.harts t, InvalidParam)
    ∷ (not (is_start_address c.pages addr), InvalidAddress)
    ∷ (not (is_stopped (state t)), AlreadyAvailable)
    ∷ []

-- The errors of hart_get_status (SBI 9.3).
abbrev pub status_errors : Config → (t : ℕ) → List (Bool × SbiError)
status_errors c t = (nat_le c.harts t, InvalidParam) ∷ []

-- The reply to a suspend, by the kind that its type names, or the type's error (SBI 9.4). A retentive suspend waits
-- inside the call. A non-retentive suspend doesn't return; it needs an address at which a hart may begin.
abbrev pub suspend_reply : Config → Result SuspendKind SbiError → (addr : ℕ) → CallReply
suspend_reply c (Err error) addr = Returns (Some error) 0
suspend_reply c (Ok Retentive) addr = Waits
suspend_reply c (Ok NonRetentive) addr = if is_start_address c.pages addr then Leaves else Returns
    (Some InvalidAddress) 0

-- The reply to an HSM call. A stop doesn't return; it fails if the caller's sstatus.SIE is 1 (SBI 9.2; that the
-- firmware checks it: profile).
abbrev pub hsm_reply : Config → (sstatus_sie : Bool) → (state : ℕ → HartState) → HsmCall → CallReply
hsm_reply c sstatus_sie state (HartStart t addr opaque) = Returns (first_that_holds (start_errors c state t addr)) 0
hsm_reply c sstatus_sie state HartStop = if sstatus_sie then Returns (Some Failed) 0 else Leaves
hsm_reply c sstatus_sie state (HartGetStatus t) = Returns (first_that_holds (status_errors c t))
    (state_number (state t))
hsm_reply c sstatus_sie state (HartSuspend kind addr opaque) = suspend_reply c kind addr

-- ---- what they do

-- The change of states by a call of hart x. A start that succeeded makes its target START_PENDING (SBI 9.1), a stop
-- makes the caller STOP_PENDING (SBI 9.2), and a suspend makes the caller SUSPEND_PENDING (SBI 9.4).
abbrev pub move_by_hsm : (x : ℕ) → HsmCall → Reply → Option Move
move_by_hsm x (HartStart t addr opaque) (Ret answer) = if is_success answer then Some
    (One t states.StartPending) else None
move_by_hsm x HartStop Gone = Some (One x states.StopPending)
move_by_hsm x (HartSuspend kind addr opaque) Gone = Some (One x states.SuspendPending)
move_by_hsm x (HartSuspend kind addr opaque) Waiting = Some (One x states.SuspendPending)
move_by_hsm x call reply = None

-- the start that a call asks for, if the call succeeded
abbrev pub started_by_hsm : HsmCall → Reply → Option Start
started_by_hsm (HartStart t addr opaque) (Ret answer) =
    if is_success answer then Some (record { hart = t; addr = addr; opaque = opaque }) else None
started_by_hsm call reply = None

-- The entry point that a suspend writes (SBI 9.4). A suspend that doesn't return is non-retentive and has one. A
-- suspend that waits is retentive and has none: its call returns.
abbrev pub resume_by_hsm : HsmCall → Reply → Option (Write (Option EntryPoint))
resume_by_hsm (HartSuspend kind addr opaque) Gone = Some (Here (Some (record { addr = addr; opaque = opaque })))
resume_by_hsm (HartSuspend kind addr opaque) Waiting = Some (Here None)
resume_by_hsm call reply = None

-- A stop removes its caller's deadline (profile).
abbrev pub deadline_by_hsm : HsmCall → Reply → Option (Write (Option ℕ))
deadline_by_hsm HartStop Gone = Some (Here None)
deadline_by_hsm call reply = None

-- what a call by hart x means for fences: a stop applies all that wait at its caller
abbrev pub turn_by_hsm : (x : ℕ) → HsmCall → Reply → Turn Flush
turn_by_hsm x HartStop Gone = Stop x
turn_by_hsm x call reply = Quiet
